-- The generators of the first attempts, as a list.
use Rattle.std.proofs.Common.{◌≡◌, ℕ, zero, suc, ◌<◌, inl, inr, List, [], ◌∷◌, ◌++◌, length, slice_get, Some, arith, refl, ap, sym, ◌∙◌}
use Rattle.std.proofs.Math.Nat.{eq-or-lt_of_le}
use Rattle.std.proofs.lemmas.Grind.{common_steps}
use Rattle.qk_splitmix.specs.SplitMix.{Generator, left}
use Rattle.qk_splitmix.specs.Attempts.{rights}

abbrev pub firsts : ℕ → Generator → List Generator
firsts zero g = []
firsts (suc n) g = firsts n g ++ left (rights n g) ∷ []

pub firsts-length : (n : ℕ) (g : Generator) → length (firsts n g) ≡ n
firsts-length zero g = refl
firsts-length (suc n) g = grind (arith, common_steps, firsts-length n g)

get-front : {X : Type 0} (xs : List X) (y : X) (k : ℕ) → k < length xs → slice_get (xs ++ y ∷ []) k ≡ slice_get xs k
get-front [] y k below = absurd (omega arith)
get-front (x ∷ xs) y zero below = refl
get-front (x ∷ xs) y (suc k) below = get-front xs y k (omega arith)

get-last : {X : Type 0} (xs : List X) (y : X) → slice_get (xs ++ y ∷ []) (length xs) ≡ Some y
get-last [] y = refl
get-last (x ∷ xs) y = get-last xs y

pub firsts-each : (n : ℕ) (g : Generator) (k : ℕ) → k < n → slice_get (firsts n g) k ≡ Some (left (rights k g))
firsts-each zero g k below = absurd (omega arith)
firsts-each (suc n) g k below =
    let atIt : k ≡ n → slice_get (firsts (suc n) g) k ≡ Some (left (rights k g)) =
    λ same. ap (slice_get (firsts (suc n) g)) (same ∙ sym (firsts-length n g)) ∙ get-last (firsts n g) (left (rights n g)) ∙ ap (λ j. Some (left (rights j g))) (sym same) in
    let before : k < n → slice_get (firsts (suc n) g) k ≡ Some (left (rights k g)) =
    λ less. get-front (firsts n g) (left (rights n g)) k (rw (firsts-length n g) less) ∙ firsts-each n g k less in
    elim (eq-or-lt_of_le {n = k} {m = n} (omega (arith, below))) [ inl same ↦ atIt same | inr less ↦ before less ]
