-- The least of faults that stand in order.
use Rattle.std.proofs.Common.{◌≡◌, ℕ, ◌≤◌, Bool, true, false, cond, List, [], ◌∷◌, ◌++◌, refl, ap, ◌∙◌, arith, Option, Some, None}
use Rattle.std.proofs.lemmas.Bool.Decides.{nat_tests}
use Rattle.qk_base.specs.declared.place.Place.{Place}
use Rattle.qk_base.specs.declared.place.Refusal.{Refusal}
use Rattle.qk_syntax.specs.TextFault.{fault, precedes, lesser, least, where_holds}
use Rattle.qk_syntax.proofs.Places.{Until, past}

-- all faults stand at the place or after it
abbrev pub AllFrom : Place → List Refusal → Type 0
AllFrom p [] = Unit {0}
AllFrom p (r ∷ rs) = Until p r.place × AllFrom p rs

abbrev pub OneFrom : Place → Option Refusal → Type 0
OneFrom p None = Unit {0}
OneFrom p (Some r) = Until p r.place

lesser_from : (p : Place) (r : Refusal) (o : Option Refusal) → Until p r.place → OneFrom p o → Until p (lesser r o).place
lesser_from p r None u v = u
lesser_from p r (Some s) u v = by_test (precedes r s)
  where
    by_test : (t : Bool) → Until p (cond t r s).place
    by_test true = u
    by_test false = v

pub least_from : (p : Place) (rs : List Refusal) → AllFrom p rs → OneFrom p (least rs)
least_from p [] a = tt
least_from p (r ∷ rs) a = lesser_from p r (least rs) a.0 (least_from p rs a.1)

before_precedes : (a b : Refusal) → Until (past a.place) b.place → precedes a b ≡ true
before_precedes a b u =
    let line = u.line in
    let column = u.column in
    grind (arith, nat_tests)

same_precedes : (p : Place) (c d : ℕ) → c ≤ d → precedes (fault c p) (fault d p) ≡ true
same_precedes p c d h = grind (arith, nat_tests)

first_by : (a : Refusal) (o : Option Refusal) → OneFrom (past a.place) o → lesser a o ≡ a
first_by a None u = refl
first_by a (Some b) u = ap (λ t. cond t a b) (before_precedes a b u)

-- the first of faults that stand in order is the least
pub first_is_least : (a : Refusal) (rs : List Refusal) → AllFrom (past a.place) rs → least (a ∷ rs) ≡ Some a
first_is_least a rs h = ap (λ r. let o : Option Refusal = Some r in o) (first_by a (least rs) (least_from (past a.place) rs h))

-- of two at one place it is the one with the lesser code
pub first_of_two : (p : Place) (c d : ℕ) (rs : List Refusal) → c ≤ d → AllFrom (past p) rs → least (fault c p ∷ fault d p ∷ rs) ≡ Some (fault c p)
first_of_two p c d rs h a = ap (λ (o : Option Refusal). let s : Option Refusal = Some (lesser (fault c p) o) in s) (first_is_least (fault d p) rs a) ∙ ap (λ t. let o : Option Refusal = Some (cond t (fault c p) (fault d p)) in o) (same_precedes p c d h)

pub all_append : (p : Place) (rs ss : List Refusal) → AllFrom p rs → AllFrom p ss → AllFrom p (rs ++ ss)
all_append p [] ss a b = b
all_append p (r ∷ rs) ss a b = (a.0, all_append p rs ss a.1 b)

pub all_where : (p : Place) (t : Bool) (r : Refusal) → Until p r.place → AllFrom p (where_holds t r)
all_where p true r u = (u, tt)
all_where p false r u = tt
