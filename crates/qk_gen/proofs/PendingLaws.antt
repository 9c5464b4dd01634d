-- Laws of what is pending.
use Rattle.std.proofs.Common.{◌≡◌, ℕ, zero, suc, ◌+◌, ◌-◌, ◌≢◌, List, [], ◌∷◌, ◌++◌, Bool, true, false, nat_lt, if◌then◌else◌, refl, ap, sym, append_assoc, sub-one}
use Rattle.qk_base.specs.declared.outcome.Cause.TheVariants.{Weight}
use Rattle.qk_core.specs.Definitions.{FunctionData, UserGenData}
use Rattle.qk_core.specs.GenData.{GenData, GensData}
use Rattle.qk_core.specs.GenData as gens
use Rattle.qk_eval.specs.Meaning.{Evaluated, result, crash, and_then, or_crash}
use Rattle.qk_eval.specs.Parts.{small}
use Rattle.qk_gen.specs.Drawing.{Draws, elements, draws_each, drawing, drawing_call}
use Rattle.qk_gen.specs.Pending.{listed, listed_with, made_with}
use Rattle.qk_splitmix.specs.SplitMix.{Generator, left, right}
use Rattle.qk_value.specs.Data.{Data, list, made, datas_of}
use Rattle.qk_value.specs.Measures.{weight}

-- what goes on in two steps goes on in one
pub and_then_again : {R S T : Type 0} (r : Evaluated R) (f : R → ℕ → Evaluated S) (g : S → ℕ → Evaluated T) → and_then (and_then r f) g ≡ and_then r (λ x u. and_then (f x u) g)
and_then_again (result x u) f g = refl
and_then_again (crash c) f g = refl

pub and_then_itself : {R : Type 0} (r : Evaluated R) → and_then r (λ x u. result x u) ≡ r
and_then_itself (result x u) = refl
and_then_itself (crash c) = refl

-- a first item before the others, and then the list
one_more : (r : Evaluated (List Data)) (seen : List Data → Data) (done : List Data) (x : Data) →
    and_then (and_then r (λ xs w. result (x ∷ xs) w)) (λ xs w. or_crash (small (seen (done ++ xs))) w)
    ≡ and_then r (λ xs w. or_crash (small (seen ((done ++ x ∷ []) ++ xs))) w)
one_more (result xs u) seen done x = ap (λ ys. or_crash (small (seen ys)) u) (sym (append_assoc done (x ∷ []) xs))
one_more (crash c) seen done x = refl

unless_heavy : (b : Bool) (r : Evaluated (List Data)) (done : List Data) (x : Data) →
    and_then (if b then crash Weight else and_then r (λ xs w. result (x ∷ xs) w)) (λ xs w. or_crash (small (list (datas_of (done ++ xs)))) w)
    ≡ (if b then crash Weight else and_then r (λ xs w. or_crash (small (list (datas_of ((done ++ x ∷ []) ++ xs)))) w))
unless_heavy true r done x = refl
unless_heavy false r done x = one_more r (λ ys. list (datas_of ys)) done x

-- the next item of a list, and what follows it
next_item : (draw : Draws Data) (n weighed : ℕ) (done : List Data) (g : Generator) (u : ℕ) (r : Evaluated Data) →
    and_then (and_then r (λ x v. if nat_lt 65536 (weighed + weight x) then crash Weight else and_then (elements draw n (weighed + weight x) (right g) v) (λ xs w. result (x ∷ xs) w)))
    (λ xs v. or_crash (small (list (datas_of (done ++ xs)))) v)
    ≡ and_then r (λ x v. listed_with draw n weighed done x (right g) v)
next_item draw n weighed done g u (result x v) = unless_heavy (nat_lt 65536 (weighed + weight x)) (elements draw n (weighed + weight x) (right g) v) done x
next_item draw n weighed done g u (crash c) = refl

-- a list that still wants an item draws it by the left half, and the rest by the right half
pub listed_more : (draw : Draws Data) (n weighed : ℕ) (done : List Data) (g : Generator) (u : ℕ) → n ≢ 0 →
    listed draw n weighed done g u ≡ and_then (draw (left g) u) (λ x v. listed_with draw (n - 1) weighed done x (right g) v)
listed_more draw zero weighed done g u h = absurd (h refl)
listed_more draw (suc n) weighed done g u h = rw sub-one (next_item draw n weighed done g u (draw (left g) u))

next_part : (functions : List FunctionData) (generators : List UserGenData) (k m : ℕ) (done : List Data) (es : GensData) (env : List Data) (size : ℕ) (g : Generator) (r : Evaluated Data) →
    and_then (and_then r (λ x v. and_then (draws_each functions (drawing_call functions generators) es env size g v) (λ xs w. result (x ∷ xs) w))) (λ xs v. or_crash (small (made k m (datas_of (done ++ xs)))) v)
    ≡ and_then r (λ x v. made_with functions generators k m (done ++ x ∷ []) es env size g v)
next_part functions generators k m done es env size g (result x v) = one_more (draws_each functions (drawing_call functions generators) es env size g v) (λ ys. made k m (datas_of ys)) done x
next_part functions generators k m done es env size g (crash c) = refl

pub made_more : (functions : List FunctionData) (generators : List UserGenData) (k m : ℕ) (done : List Data) (e : GenData) (es : GensData) (env : List Data) (size : ℕ) (g : Generator) (u : ℕ) →
    made_with functions generators k m done (gens.more e es) env size g u
    ≡ and_then (drawing functions generators e env size (left g) u) (λ x v. made_with functions generators k m (done ++ x ∷ []) es env size (right g) v)
made_more functions generators k m done e es env size g u = next_part functions generators k m done es env size (right g) (drawing functions generators e env size (left g) u)
