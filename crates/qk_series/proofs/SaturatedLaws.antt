-- Sums and products of counts that stop at 2^40.
use Rattle.std.proofs.Common.{◌≡◌, ◌∙◌, inl, inr, ℕ, zero, suc, ◌+◌, ◌*◌, ◌≤◌, ◌<◌, ◌^◌, sym, ap, arith}
use Rattle.std.proofs.lemmas.Nat.{mul-le}
use Rattle.std.proofs.lemmas.Bool.{cases_lt}
use Rattle.std.proofs.Math.Nat.{mul_comm}
use Rattle.qk_series.specs.Members.{saturated}

pub sum_twice : (m n : ℕ) → saturated (saturated m + saturated n) ≡ saturated (m + n)
sum_twice m n = omega arith

pub sum_first : (m n : ℕ) → saturated (saturated m + n) ≡ saturated (m + n)
sum_first m n = omega arith

-- a product with a factor that reaches the limit reaches it, unless the other is 0
at_limit : (a m : ℕ) → 2 ^ 40 ≤ a → 0 < m → 2 ^ 40 ≤ a * m
at_limit a m h some = omega (arith, mul-le (2 ^ 40) 1 a m h some)

same : (m : ℕ) → m ≤ 2 ^ 40 → saturated m ≡ m
same m h = omega (arith, h)

whole : (m : ℕ) → 2 ^ 40 ≤ m → saturated m ≡ 2 ^ 40
whole m h = omega (arith, h)

some_saturated : (m : ℕ) → 0 < m → 0 < saturated m
some_saturated m h = omega (arith, h)

none_times : (n : ℕ) → 0 * n ≡ 0
none_times n = omega arith

-- a first factor that reaches the limit
first_at_limit : (m n : ℕ) → 2 ^ 40 ≤ m → saturated (saturated m * saturated n) ≡ saturated (m * n)
first_at_limit m zero h = omega arith
first_at_limit m (suc n) h =
    whole (saturated m * saturated (suc n)) (at_limit (saturated m) (saturated (suc n)) (omega (arith, whole m h)) (some_saturated (suc n) (omega arith)))
    ∙ sym (whole (m * suc n) (at_limit m (suc n) h (omega arith)))

pub product_twice : (m n : ℕ) → saturated (saturated m * saturated n) ≡ saturated (m * n)
product_twice m n = elim (cases_lt m (2 ^ 40)) [
  | inl h ↦ elim (cases_lt n (2 ^ 40)) [
    | inl k ↦ (λ i. saturated (same m (omega (arith, h)) i * same n (omega (arith, k)) i))
    | inr k ↦ ap saturated (mul_comm (saturated m) (saturated n)) ∙ first_at_limit n m k ∙ ap saturated (mul_comm n m)
  ]
  | inr h ↦ first_at_limit m n h
]

pub product_first : (m n : ℕ) → saturated (saturated m * n) ≡ saturated (m * n)
product_first m n = sym (product_twice (saturated m) n) ∙ ap (λ s. saturated (s * saturated n)) (same (saturated m) (omega arith)) ∙ product_twice m n
