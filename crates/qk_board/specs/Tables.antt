-- Tables of a function of numbers, and quotients.
use Rattle.std.proofs.Common.{◌≡◌, ℕ, zero, suc, ◌+◌, ◌*◌, ◌/◌, ◌<◌, ◌≤◌, length, get_or, refl, ap, ◌∙◌, div-add-mod', mul-le-mul_right, suc-mul, arith}
use Rattle.std.proofs.Math.Nat.{mod-lt}
use mathlib.Core.Logic.{dite}
use native.Mathlib.Decide.{dec_le}
use Rattle.qk_board.specs.Layouts.{table_of}

module _ (f : ℕ → ℕ) where
  pub table_from_at : (r k j : ℕ) → j < k → get_or (table_of f r k) j 0 ≡ f (r + j)
  table_from_at r zero j h = absurd (omega arith)
  table_from_at r (suc k) zero h = let e : r ≡ r + 0 = omega arith in ap f e
  table_from_at r (suc k) (suc j) h = let e : suc r + j ≡ r + suc j = omega arith in table_from_at (suc r) k j (omega arith) ∙ ap f e

  pub table_past : (r k j : ℕ) → k ≤ j → get_or (table_of f r k) j 0 ≡ 0
  table_past r zero j h = refl
  table_past r (suc k) zero h = absurd (omega arith)
  table_past r (suc k) (suc j) h = table_past (suc r) k j (omega arith)

  pub table_length : (r k : ℕ) → length (table_of f r k) ≡ k
  table_length r zero = refl
  table_length r (suc k) = ap suc (table_length (suc r) k)

  pub table_at : (k j : ℕ) → j < k → get_or (table_of f 0 k) j 0 ≡ f j
  table_at k j h = let e : 0 + j ≡ j = omega arith in table_from_at 0 k j h ∙ ap f e

  -- a number that is below an entry is at a place of the table
  pub table_inside : (k j i : ℕ) → i < get_or (table_of f 0 k) j 0 → j < k
  table_inside k j i h = dite (dec_le (suc j) k) (λ low. low) (λ high. let z = table_past 0 k j (omega arith) in absurd (omega arith))

pub div_up : (i a m : ℕ) → i < a / m → i * m + m ≤ a
div_up i a m h = let e = div-add-mod' a m in let k : suc i * m ≤ a / m * m = mul-le-mul_right m h in let s = suc-mul i m in omega arith

pub div_down : (i a m : ℕ) → 0 < m → i * m + m ≤ a → i < a / m
div_down i a m pos h = dite (dec_le (suc i) (a / m)) (λ k. k) (λ k. let e = div-add-mod' a m in let l = mod-lt a pos in let le : a / m ≤ i = omega arith in let q : a / m * m ≤ i * m = mul-le-mul_right m le in absurd (omega arith))

pub next_multiple : (i j m : ℕ) → i < j → i * m + m ≤ j * m
next_multiple i j m h = let k : suc i * m ≤ j * m = mul-le-mul_right m h in let s = suc-mul i m in omega arith

-- a number has one quotient and one rest
pub one_quotient : (i r j q m : ℕ) → r < m → q < m → i * m + r ≡ j * m + q → (i ≡ j) × (r ≡ q)
one_quotient i r j q m a b e = dite (dec_le i j)
    (λ le. dite (dec_le j i) (λ ge. let is : i ≡ j = omega arith in let t = ap (λ x. x * m) is in (is, omega arith)) (λ gt. let s = next_multiple i j m (omega arith) in absurd (omega arith)))
    (λ gt. let s = next_multiple j i m (omega arith) in absurd (omega arith))
