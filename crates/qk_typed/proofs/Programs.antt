-- What the expressions, generators and calls of a well-typed program come to.
use Rattle.std.proofs.Common.{◌≡◌, ℕ, List, Some, slice_get, sym, subst}
use Rattle.qk_core.specs.Definitions.{UserGenData}
use Rattle.qk_core.specs.Program.{ProgramData}
use Rattle.qk_eval.specs.Meaning.{called}
use Rattle.qk_gen.specs.Drawing.{drawn}
use Rattle.qk_splitmix.specs.SplitMix.{Generator}
use Rattle.qk_value.specs.Data.{Data}
use Rattle.qk_value.specs.Types.{TypeData}
use Rattle.qk_typed.specs.Laws.{MeaningsAreTyped, CallsAreTyped, DrawingsAreTyped, DrawnCallsAreTyped}
use Rattle.qk_typed.specs.TypedExpressions.{IsFunction}
use Rattle.qk_typed.specs.TypedGenerators.{IsGenerator}
use Rattle.qk_typed.specs.TypedValues.{HaveTypes, GivesType}
use Rattle.qk_typed.specs.WellTyped.{IsWellTyped, IsTypedFunction, IsTypedGenerator, DrawsIn}
use Rattle.qk_typed.proofs.Drawing.{drawing_gives, drawn_gives}
use Rattle.qk_typed.proofs.Typing.{BodiesAreTyped, as_type, meaning_gives, called_gives}
use Rattle.qk_typed.proofs.ValueTypes.{each_at}

pub bodies_typed : (c : ProgramData) → IsWellTyped c → BodiesAreTyped c.kinds c.functions
bodies_typed c is f function e = (each_at (IsTypedFunction c) c.functions f function is.functions e).body

generators_typed : (c : ProgramData) → IsWellTyped c → (f : ℕ) (generator : UserGenData) → slice_get c.generators f ≡ Some generator → DrawsIn c generator.params generator.body generator.result
generators_typed c is f generator e = (each_at (IsTypedGenerator c) c.generators f generator is.generators e).body

pub meanings_typed : MeaningsAreTyped
meanings_typed c is types env e t u h w = meaning_gives c.kinds c.functions (bodies_typed c is) e types t env u h w

pub calls_typed : CallsAreTyped
calls_typed c is f function args u e h = called_gives c.kinds c.functions (bodies_typed c is) f function args u e h

pub drawings_typed : DrawingsAreTyped
drawings_typed c is types env e t size g u h w = drawing_gives c.kinds c.functions (bodies_typed c is) c.generators (generators_typed c is) e types t env size g u h w

pub drawn_calls_typed : DrawnCallsAreTyped
drawn_calls_typed c is f generator args size g u e h = drawn_gives c.kinds c.functions (bodies_typed c is) c.generators (generators_typed c is) f generator args size g u e h

-- a call of a function or a generator of these types
pub function_gives : (c : ProgramData) → IsWellTyped c → (f : ℕ) (ts : List TypeData) (t : TypeData) (args : List Data) (u : ℕ) → IsFunction c.functions f ts t → HaveTypes c.kinds ts args → GivesType c.kinds t (called c.functions f args u)
function_gives c is f ts t args u w h =
    let good : HaveTypes c.kinds w.0.params args = subst (λ (us : List TypeData). HaveTypes c.kinds us args) (sym w.2) h in
    as_type c.kinds w.0.result t (called c.functions f args u) (sym w.3) (calls_typed c is f w.0 args u w.1 good)

pub generator_gives : (c : ProgramData) → IsWellTyped c → (f : ℕ) (ts : List TypeData) (t : TypeData) (args : List Data) (size : ℕ) (g : Generator) (u : ℕ)
    → IsGenerator c.generators f ts t → HaveTypes c.kinds ts args → GivesType c.kinds t (drawn c.functions c.generators f args size g u)
generator_gives c is f ts t args size g u w h =
    let good : HaveTypes c.kinds w.0.params args = subst (λ (us : List TypeData). HaveTypes c.kinds us args) (sym w.2) h in
    as_type c.kinds w.0.result t (drawn c.functions c.generators f args size g u) (sym w.3) (drawn_calls_typed c is f w.0 args size g u w.1 good)
