-- Laws of halves: which is the first, how many they are.
use Rattle.std.proofs.Common.{◌≡◌, ℕ, zero, suc, ◌/◌, ◌^◌, ◌≤◌, ◌<◌, ◌∷◌, length, refl, ap, arith}
use Rattle.qk_shrink.specs.Halves.{halves, halves_within}

half_less : (n : ℕ) → suc n / 2 ≤ n
half_less n = omega arith

-- more steps than the number give nothing more
stable : (most more n : ℕ) → n ≤ most → n ≤ more → halves_within most n ≡ halves_within more n
stable zero zero n h k = refl
stable zero (suc more) zero h k = refl
stable zero (suc more) (suc n) h k = absurd (omega arith)
stable (suc most) zero zero h k = refl
stable (suc most) zero (suc n) h k = absurd (omega arith)
stable (suc most) (suc more) zero h k = refl
stable (suc most) (suc more) (suc n) h k =
    ap (λ rest. suc n ∷ rest) (stable most more (suc n / 2) (omega (arith, half_less n)) (omega (arith, half_less n)))

-- the first, and the halves of its half
pub halves_more : (n : ℕ) → 0 < n → halves n ≡ n ∷ halves (n / 2)
halves_more zero h = absurd (omega arith)
halves_more (suc n) h = ap (λ rest. suc n ∷ rest) (stable n (suc n / 2) (suc n / 2) (half_less n) (omega arith))

few_within : (bits most n : ℕ) → n < 2 ^ bits → length (halves_within most n) ≤ bits
few_within bits zero n h = omega arith
few_within bits (suc most) zero h = omega arith
few_within zero (suc most) (suc n) h = absurd (omega arith)
few_within (suc bits) (suc most) (suc n) h = omega (arith, few_within bits most (suc n / 2) (omega (arith, h)))

-- a number has no more halves than bits
pub few_halves : (bits n : ℕ) → n < 2 ^ bits → length (halves n) ≤ bits
few_halves bits n h = few_within bits n n h
