-- What is reached among the rest by the number that is left is what is reached among all.
use Rattle.std.proofs.Common.{◌≡◌, ℕ, List, drop}
use Rattle.qk_core.specs.Definitions.{FunctionData}
use Rattle.qk_core.specs.GenView.{view_weighteds}
use Rattle.qk_gen.specs.Drawing.{Calls, draws_reached}
use Rattle.qk_splitmix.specs.SplitMix.{Generator}
use Rattle.qk_value.specs.Data.{Data}
use Rattle.qk_gen.proofs.choices.reached.Given as goal

abbrev pub invariant-loop-part : goal.invariant-loop-part
invariant-loop-part l = (functions : List FunctionData) (calls : Calls) (env : List Data) (size : ℕ) (g : Generator) (u : ℕ) →
    draws_reached functions calls (view_weighteds (drop l.part-index l.parts)) l.rest env size g u ≡ draws_reached functions calls (view_weighteds l.parts) l.fn.number env size g u
