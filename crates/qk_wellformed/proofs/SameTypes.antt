-- The test of types tells which are the same.
use Rattle.std.proofs.Common.{◌≡◌, ◌∙◌, ℕ, Bool, true, false, ◌&&◌, nat_eq, List, [], ◌∷◌, map, length, refl, sym, ap, arith, Ok}
use Rattle.std.proofs.lemmas.Bool.Decides.{nat_tests}
use Rattle.qk_base.specs.declared.place.Place.{Place}
use Rattle.qk_core.specs.ExprData.{ExprData}
use Rattle.qk_value.specs.Types.{TypeData, int_type, bool_type, list_type, pair_type, made_type, same_type}
use Rattle.qk_typing.specs.Operators.{Typed, typed, has_type, have_types, is_list}
use Rattle.qk_wellformed.proofs.Inversion.{followed, holds, test_held, next_after}

pub both : (a b : Bool) → (a && b) ≡ true → (a ≡ true) × (b ≡ true)
both true b h = (refl, h)
both false b h = absurd (cc)

same_number : (k l : ℕ) → nat_eq k l ≡ true → k ≡ l
same_number k l h = grind (arith, nat_tests)

number_itself : (k : ℕ) → nat_eq k k ≡ true
number_itself k = grind (arith, nat_tests)

pub both_hold : (a b : Bool) → a ≡ true → b ≡ true → (a && b) ≡ true
both_hold a b h k = ap (λ x. x && b) h ∙ k

pub same_is : (t u : TypeData) → same_type t u ≡ true → t ≡ u
same_is int_type int_type h = refl
same_is bool_type bool_type h = refl
same_is (list_type t) (list_type u) h = ap list_type (same_is t u h)
same_is (pair_type t u) (pair_type v w) h = let a : (same_type t v ≡ true) × (same_type u w ≡ true) = both _ _ h in ap (λ x. pair_type x u) (same_is t v a.0) ∙ ap (pair_type v) (same_is u w a.1)
same_is (made_type k) (made_type l) h = ap made_type (same_number k l h)
same_is t u h = absurd (cc)

pub itself : (t : TypeData) → same_type t t ≡ true
itself int_type = refl
itself bool_type = refl
itself (list_type t) = itself t
itself (pair_type t u) = both_hold _ _ (itself t) (itself u)
itself (made_type k) = number_itself k

pub like : (t u : TypeData) → t ≡ u → same_type t u ≡ true
like t u h = ap (same_type t) (sym h) ∙ itself t

pub has : (t : TypeData) (e : Typed) (u : Unit {0}) → has_type t e ≡ Ok u → t ≡ e.ty
has t e u h = same_is t e.ty (test_held _ _ _ u h)

pub given : (t : TypeData) (e : Typed) → t ≡ e.ty → has_type t e ≡ Ok tt
given t e h = holds _ _ _ (like t e.ty h)

list_by : (p : Place) (t : TypeData) (x : ExprData) (u : Unit {0}) → is_list (typed p t x) ≡ Ok u → (item : TypeData) × (t ≡ list_type item)
list_by p (list_type t) x u h = (t, refl)
list_by p int_type x u h = absurd (cc)
list_by p bool_type x u h = absurd (cc)
list_by p (pair_type t v) x u h = absurd (cc)
list_by p (made_type k) x u h = absurd (cc)

pub some_list : (e : Typed) (u : Unit {0}) → is_list e ≡ Ok u → (item : TypeData) × (e.ty ≡ list_type item)
some_list e u h = list_by e.place e.ty e.expr u h

pub list_given : (e : Typed) (item : TypeData) → e.ty ≡ list_type item → is_list e ≡ Ok tt
list_given e item h = ap (λ t. is_list (typed e.place t e.expr)) h

pub all_given : (es : List Typed) (ts : List TypeData) → map (λ e. e.ty) es ≡ ts → have_types ts es ≡ Ok tt
all_given [] [] h = refl
all_given [] (t ∷ ts) h = absurd (cc)
all_given (e ∷ es) [] h = absurd (cc)
all_given (e ∷ es) (t ∷ ts) h = next_after (has_type t e) (have_types ts es) tt _ (given t e (cc)) (all_given es ts (cc))

pub all_have : (es : List Typed) (ts : List TypeData) (u : Unit {0}) → length es ≡ length ts → have_types ts es ≡ Ok u → map (λ e. e.ty) es ≡ ts
all_have [] [] u n h = refl
all_have [] (t ∷ ts) u n h = absurd (cc)
all_have (e ∷ es) [] u n h = absurd (cc)
all_have (e ∷ es) (t ∷ ts) u n h = followed (has_type t e) (have_types ts es) u _ (λ x k r. ap (λ y. y ∷ map (λ e. e.ty) es) (sym (has t e x k)) ∙ ap (λ y. t ∷ y) (all_have es ts u (omega (arith, n)) r)) h
