-- The forms of heads, group by group; and what is not usable.
use Rattle.std.proofs.Common.{◌≡◌, ◌∙◌, Bool, true, false, cond, List, [], ◌∷◌, ◌++◌, refl, sym, ap, Option, None, Some, Err}
use Rattle.std.specs.Option.{option_map, option_or}
use Rattle.std.specs.Str.{bytes_eq}
use Rattle.qk_base.specs.declared.place.Place.{Place}
use Rattle.qk_names.specs.Checks.{◌>>◌, check, refuse}
use Rattle.qk_typing.specs.HeadForms.{unusable}
use Rattle.qk_names.specs.Names.{Declared, is_known}
use Rattle.qk_typing.specs.Operators.{usable}
use Rattle.qk_names.specs.Reserved.{Word, entry_of}

picked : {A : Type 0} (b : Bool) (v : A) (o r s : Option A) → r ≡ option_or o s → cond b (Some v) r ≡ option_or (cond b (Some v) o) s
picked true v o r s h = refl
picked false v o r s h = h

entry-or : {A : Type 0} (xs ys : List (Word × A)) (w : Word) → entry_of (xs ++ ys) w ≡ option_or (entry_of xs w) (entry_of ys w)
entry-or [] ys w = refl
entry-or (x ∷ xs) ys w = picked (bytes_eq x.0 w) x.1 _ _ _ (entry-or xs ys w)

map-or : {A B : Type 0} (f : A → B) (a b : Option A) → option_map f (option_or a b) ≡ option_or (option_map f a) (option_map f b)
map-or f None b = refl
map-or f (Some x) b = refl

-- entries of one list and then of another
pub joined : {A B : Type 0} (f : A → B) (w : Word) (xs ys : List (Word × B)) (a b r : Option A) → option_map f a ≡ entry_of xs w → option_map f b ≡ entry_of ys w → r ≡ option_or a b
    → option_map f r ≡ entry_of (xs ++ ys) w
joined f w xs ys a b r first second same =
    ap (option_map f) same ∙ map-or f a b ∙ (λ i. option_or (first i) (second i)) ∙ sym (entry-or xs ys w)

known : {A : Type 0} (b : Bool) (p q : Place) → (check b 22 q >> refuse {A = A} 20 p) ≡ Err (cond b (record { code = 20; place = p }) (record { code = 22; place = q }))
known true p q = refl
known false p q = refl

-- what has no form is refused
pub not_usable : {A : Type 0} (names : List Declared) (p q : Place) (w : Word) (o : Option A) → o ≡ None → usable names p q w o ≡ Err (unusable names p q w)
not_usable names p q w o none = ap (usable names p q w) none ∙ known (is_known names w) p q
