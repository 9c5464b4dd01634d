-- The numbers up to a depth, by their places.
use Rattle.std.proofs.Common.{◌≡◌, ◌∙◌, inl, inr, ℕ, zero, suc, ◌+◌, ◌*◌, ◌/◌, ◌%◌, ◌≤◌, ◌<◌, pos, [], ◌∷◌, length, get_or, refl, ap, arith}
use Rattle.std.specs.Prelude.{neg_ℤ}
use Rattle.std.proofs.lemmas.Bool.{cases_lt, cases_eq}
use Rattle.std.proofs.lemmas.List.{length-append, get_or_append_left, get_or-append-add}
use Rattle.qk_series.specs.Series.{numbers}

pub how_many : (d : ℕ) → length (numbers d) ≡ 2 * d + 1
how_many zero = refl
how_many (suc d) = omega (arith, length-append (numbers d) (pos (suc d) ∷ neg_ℤ (pos (suc d)) ∷ []), how_many d)

-- behind the numbers of the depth below
last : (d i k : ℕ) → k ≡ 2 * d + 1 + i → get_or (numbers (suc d)) k (pos 0) ≡ get_or (pos (suc d) ∷ neg_ℤ (pos (suc d)) ∷ []) i (pos 0)
last d i k is =
    ap (λ n. get_or (numbers (suc d)) n (pos 0)) (omega (arith, is, how_many d))
    ∙ get_or-append-add (numbers d) (pos (suc d) ∷ neg_ℤ (pos (suc d)) ∷ []) i (pos 0)

pub odd_place : (d k : ℕ) → k < 2 * d + 1 → k % 2 ≡ 1 → get_or (numbers d) k (pos 0) ≡ pos (k / 2 + 1)
odd_place zero k h odd = absurd (omega (arith, h, odd))
odd_place (suc d) k h odd = elim (cases_lt k (2 * d + 1)) [
  | inl less ↦ get_or_append_left (numbers d) _ (pos 0) k (omega (arith, less, how_many d)) ∙ odd_place d k less odd
  | inr more ↦
      let half : suc d ≡ k / 2 + 1 = omega (arith, more, h, odd) in
      last d 0 k (omega (arith, more, h, odd)) ∙ ap pos half
]

go : (d k : ℕ) → 2 * d + 1 ≤ k → k < 2 * suc d + 1 → (k % 2 ≡ 1 → ⊥) → k ≡ 2 * d + 1 + 1
go d k more h even = elim (cases_eq k (2 * d + 1)) [
  | inl is ↦ absurd (even (omega (arith, is)))
  | inr not ↦ omega (arith, more, h, not)
]

even_start : (k : ℕ) → k ≡ 0 → get_or (numbers 0) k (pos 0) ≡ neg_ℤ (pos (k / 2))
even_start zero h = refl
even_start (suc k) h = absurd (omega (arith, h))

pub even_place : (d k : ℕ) → k < 2 * d + 1 → (k % 2 ≡ 1 → ⊥) → get_or (numbers d) k (pos 0) ≡ neg_ℤ (pos (k / 2))
even_place zero k h even = even_start k (omega (arith, h))
even_place (suc d) k h even = elim (cases_lt k (2 * d + 1)) [
  | inl less ↦ get_or_append_left (numbers d) _ (pos 0) k (omega (arith, less, how_many d)) ∙ even_place d k less even
  | inr more ↦
      let here : k ≡ 2 * d + 1 + 1 = go d k more h even in
      let half : suc d ≡ k / 2 = omega (arith, here) in
      last d 1 k here ∙ ap (λ n. neg_ℤ (pos n)) half
]
