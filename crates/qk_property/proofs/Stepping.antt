-- One step of a replay.
use Rattle.std.proofs.Common.{◌≡◌, ℕ, zero, suc, ◌≤◌, ◌<◌, Bool, true, false, ◌&&◌, nat_lt, List, [], ◌∷◌, All, length, Option, Some, None, slice_get, refl, sym, ap, subst, ◌∙◌}
use Rattle.std.proofs.lemmas.Bool.{lt-ltb, le-ltb}
use Rattle.std.proofs.lemmas.Option.{slice_get_within, get_or_from_slice_get}
use Rattle.qk_path.specs.Points.{nth}
use Rattle.qk_property.specs.Replayed.{step_to}

nth_is : {P : Type 0} (p q : P) (xs : List P) (n : ℕ) → slice_get xs n ≡ Some q → nth p xs n ≡ q
nth_is p q [] n e = cc
nth_is p q (x ∷ xs) zero e = cc
nth_is p q (x ∷ xs) (suc n) e = nth_is p q xs n e

module _ {P : Type 0} (children : P → List P) (failing : P → Bool) where
  -- a candidate that fails is a step
  pub steps : (p q : P) (n : ℕ) (xs : List P) → xs ≡ children p → slice_get xs n ≡ Some q → failing q ≡ true → step_to children failing p n ≡ Some q
  steps p q n xs same at fails =
      let found : slice_get (children p) n ≡ Some q = ap (λ ys. slice_get ys n) (sym same) ∙ at in
      rw (lt-ltb n (length (children p)) (slice_get_within (children p) n q found), nth_is p q (children p) n found, fails) refl

  -- one that passes is none
  pub passes : (p q : P) (n : ℕ) (xs : List P) → xs ≡ children p → slice_get xs n ≡ Some q → failing q ≡ false → step_to children failing p n ≡ None
  passes p q n xs same at fails =
      let found : slice_get (children p) n ≡ Some q = ap (λ ys. slice_get ys n) (sym same) ∙ at in
      rw (lt-ltb n (length (children p)) (slice_get_within (children p) n q found), nth_is p q (children p) n found, fails) refl

  -- nor is a number past the candidates
  pub past : (p : P) (n : ℕ) (xs : List P) → xs ≡ children p → length xs ≤ n → step_to children failing p n ≡ None
  past p n xs same over =
      let far : length (children p) ≤ n = subst (λ (ys : List P). length ys ≤ n) same over in
      rw (le-ltb n (length (children p)) far) refl

-- what holds of each holds of the one at a place
pub holds_at : {P : Type 0} (holds : P → Type 0) (xs ys : List P) (n : ℕ) (q : P) → xs ≡ ys → All holds ys → slice_get xs n ≡ Some q → holds q
holds_at holds xs ys n q same all at =
    let found : slice_get ys n ≡ Some q = ap (λ zs. slice_get zs n) (sym same) ∙ at in
    subst holds (get_or_from_slice_get ys n q q found) (all n q (slice_get_within ys n q found))
