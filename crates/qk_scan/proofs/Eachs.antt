-- Lists of which each item meets a fact.
use mathlib.Core.Option.{some, some-injective, some-ne-none}
use lib.ListN.{get_elem?}
use Rattle.std.proofs.Common.{◌≡◌, ◌+◌, ◌<◌, sym, subst, OnOk, ℕ, zero, suc, List, [], ◌∷◌, ◌++◌, length, get_or, Result, Ok, Err, OnErr, arith}
use Rattle.qk_scan.specs.Each.{Each}

module _ {X : Type 0} (P : X → Type 0) where
  pub each_at : (xs : List X) (i : ℕ) (x : X) → get_elem? xs i ≡ some x → Each P xs → P x
  each_at [] i x e h = absurd (some-ne-none x (sym e))
  each_at (y ∷ ys) zero x e h = subst P (some-injective y x e) h.0
  each_at (y ∷ ys) (suc i) x e h = each_at ys i x e h.1

  -- what each place has, each item has
  pub each_of_places : (xs : List X) → ((i : ℕ) (d : X) → i < length xs → P (get_or xs i d)) → Each P xs
  each_of_places [] h = tt
  each_of_places (x ∷ xs) h = (h 0 x (omega arith), each_of_places xs (λ i d low. h (suc i) d (omega (arith, low))))

  pub each_place : (xs : List X) (i : ℕ) (d : X) → i < length xs → Each P xs → P (get_or xs i d)
  each_place [] i d low h = absurd (omega (arith, low))
  each_place (x ∷ xs) zero d low h = h.0
  each_place (x ∷ xs) (suc i) d low h = each_place xs i d (omega (arith, low)) h.1

  pub each_append : (xs ys : List X) → Each P xs → Each P ys → Each P (xs ++ ys)
  each_append [] ys h k = k
  each_append (x ∷ xs) ys h k = (h.0, each_append xs ys h.1 k)

  pub each_last : (xs : List X) (x : X) → Each P (xs ++ x ∷ []) → P x
  each_last [] x h = h.0
  each_last (y ∷ ys) x h = each_last ys x h.1

  pub each_init : (xs : List X) (x : X) → Each P (xs ++ x ∷ []) → Each P xs
  each_init [] x h = tt
  each_init (y ∷ ys) x h = (h.0, each_init ys x h.1)

pub each_map : {X : Type 0} (P Q : X → Type 0) → ((x : X) → P x → Q x) → (xs : List X) → Each P xs → Each Q xs
each_map P Q f [] h = tt
each_map P Q f (x ∷ xs) h = (f x h.0, each_map P Q f xs h.1)

pub on_err : {T E : Type 0} (r : Result T E) (P : Type 0) → P → OnErr r P
on_err (Ok t) P h = tt
on_err (Err e) P h = h

pub on_ok : {T E : Type 0} (r : Result T E) (P Q : Type 0) → (P → Q) → OnOk r P → OnOk r Q
on_ok (Ok t) P Q f h = f h
on_ok (Err e) P Q f h = tt
