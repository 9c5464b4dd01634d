-- Every gamma is odd.
use Rattle.std.proofs.Common.{◌≡◌, ℕ, zero, suc, ◌%◌, ◌<◌, bit_or, bit_xor, nat_lt, count_ones, Bool, true, false, if◌then◌else◌, arith, refl, ◌∙◌, ap}
use Rattle.std.proofs.lemmas.Nat.{or_mod, xor_mod}
use Rattle.qk_splitmix.specs.SplitMix.{spread_bits, shifted_onto}

bit_or_one : (b : ℕ) → b < 2 → bit_or b 1 ≡ 1
bit_or_one zero below = refl
bit_or_one (suc zero) below = refl
bit_or_one (suc (suc b)) below = absurd (omega arith)

or_one_odd : (z : ℕ) → bit_or z 1 % 2 ≡ 1
or_one_odd z = or_mod z 1 1 ∙ bit_or_one (z % 2) (omega arith)

turned_odd : (g : ℕ) → g % 2 ≡ 1 → bit_xor g 0xaaaaaaaaaaaaaaaa % 2 ≡ 1
turned_odd g odd = xor_mod g 0xaaaaaaaaaaaaaaaa 1 ∙ ap (λ b. bit_xor b 0) odd

chosen_odd : (b : Bool) (g : ℕ) → g % 2 ≡ 1 → (if b then bit_xor g 0xaaaaaaaaaaaaaaaa else g) % 2 ≡ 1
chosen_odd true g odd = turned_odd g odd
chosen_odd false g odd = odd

pub spread_odd : (z : ℕ) → spread_bits (bit_or z 1) % 2 ≡ 1
unfolding spread_bits
spread_odd z = chosen_odd (nat_lt (count_ones (shifted_onto 1 (bit_or z 1))) 24) (bit_or z 1) (or_one_odd z)
