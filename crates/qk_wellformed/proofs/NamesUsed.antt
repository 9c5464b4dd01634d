-- What is found under a word.
use Rattle.std.specs.Prelude.{codes, bytes_eq, if◌then◌else◌, option_map}
use Rattle.std.proofs.Common.{◌≡◌, ◌∙◌, Bool, true, false, List, refl, sym, ap, Option, Some, None, Ok}
use Rattle.qk_base.specs.declared.place.Place.{Place}
use Rattle.qk_core.specs.ExprData.{ExprData}
use Rattle.qk_value.specs.Types.{TypeData, bool_type}
use Rattle.qk_names.specs.Checks.{refuse}
use Rattle.qk_expressions.specs.Expressions.{atom, variable_or, lone_name}
use Rattle.qk_names.specs.Names.{Declared, is_known}
use Rattle.qk_typing.specs.Operators.{Tables, Typed, typed, usable}
use Rattle.qk_expressions.specs.Patterns.{Shape, shape_or_refused}
use Rattle.qk_names.specs.Reserved.{Word}
use Rattle.qk_headers.specs.Scopes.{Scope, Found, variable_of}
use Rattle.qk_wellformed.specs.IsExpression.{IsLoneName, truth_of}
use Rattle.qk_wellformed.proofs.Inversion.{ok_is, held}

pub usable_is : {A : Type 0} (names : List Declared) (p q : Place) (w : Word) (o : Option A) (a : A) → usable names p q w o ≡ Ok a → o ≡ Some a
usable_is names p q w (Some b) a h = ap Some (ok_is _ _ _ refl h)
usable_is names p q w None a h = held (is_known names w) 22 q (refuse 20 p) a _ (λ t k. absurd (cc)) h

pub usable_given : {A : Type 0} (names : List Declared) (p q : Place) (w : Word) (o : Option A) (a : A) → o ≡ Some a → usable names p q w o ≡ Ok a
usable_given names p q w o a h = ap (usable names p q w) h

pub shape_is : (names : List Declared) (p q : Place) (w : Word) (o : Option Shape) (a : Shape) → shape_or_refused names p q w o ≡ Ok a → o ≡ Some a
shape_is names p q w (Some b) a h = ap Some (ok_is _ _ _ refl h)
shape_is names p q w None a h = held (is_known names w) 22 q (refuse 24 p) a _ (λ t k. absurd (cc)) h

pub shape_given : (names : List Declared) (p q : Place) (w : Word) (o : Option Shape) (a : Shape) → o ≡ Some a → shape_or_refused names p q w o ≡ Ok a
shape_given names p q w o a h = ap (shape_or_refused names p q w) h

-- a truth value at a place
abbrev pub truth_at : Place → Option Bool → Option Typed
truth_at p o = option_map (λ b. typed p bool_type (ExprData.truth b)) o

atom_by : (p : Place) (a b : Bool)
    → (if a then Some (typed p bool_type (ExprData.truth true)) else if b then Some (typed p bool_type (ExprData.truth false)) else None) ≡ truth_at p (if a then Some true else if b then Some false else None)
atom_by p true b = refl
atom_by p false true = refl
atom_by p false false = refl

atom_is : (p : Place) (w : Word) → atom p w ≡ truth_at p (truth_of w)
atom_is p w = atom_by p (bytes_eq (codes "true") w) (bytes_eq (codes "false") w)

pub some_is : {A : Type 0} (a b : A) (o : Option A) → o ≡ Some a → o ≡ Some b → a ≡ b
some_is a b o h k = cc

lone_by : (p : Place) (v : Option Found) (o : Option Bool) (r : Typed) → variable_or p v (truth_at p o) ≡ Some r → IsLoneName v o r.ty r.expr
lone_by p (Some v) o r h = let same : typed p v.ty (ExprData.variable v.index) ≡ r = some_is _ _ _ refl h in (ap (λ y. y.ty) (sym same), ap (λ y. y.expr) (sym same))
lone_by p None (Some b) r h = let same : typed p bool_type (ExprData.truth b) ≡ r = some_is _ _ _ refl h in (ap (λ y. y.ty) (sym same), ap (λ y. y.expr) (sym same))
lone_by p None None r h = absurd (cc)

lone_from : (p : Place) (v : Option Found) (o : Option Bool) (t : TypeData) (e : ExprData) → IsLoneName v o t e → variable_or p v (truth_at p o) ≡ Some (typed p t e)
lone_from p (Some v) o t e (h, k) = λ i. Some (typed p (sym h i) (sym k i))
lone_from p None (Some b) t e (h, k) = λ i. Some (typed p (sym h i) (sym k i))
lone_from p None None t e h = absurd h

pub lone_stands : (d : Tables) (s : Scope) (p : Place) (w : Word) (r : Typed) → lone_name d s p w ≡ Ok r → IsLoneName (variable_of s w) (truth_of w) r.ty r.expr
lone_stands d s p w r h =
    lone_by p (variable_of s w) (truth_of w) r (ap (variable_or p (variable_of s w)) (sym (atom_is p w)) ∙ usable_is d.names p p w (variable_or p (variable_of s w) (atom p w)) r h)

pub lone_given : (d : Tables) (s : Scope) (p : Place) (w : Word) (t : TypeData) (e : ExprData) → IsLoneName (variable_of s w) (truth_of w) t e → lone_name d s p w ≡ Ok (typed p t e)
lone_given d s p w t e h =
    usable_given d.names p p w (variable_or p (variable_of s w) (atom p w)) (typed p t e) (ap (variable_or p (variable_of s w)) (atom_is p w) ∙ lone_from p (variable_of s w) (truth_of w) t e h)
