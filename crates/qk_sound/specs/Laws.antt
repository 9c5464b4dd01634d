-- What holds of the programs that trees stand for.
use Rattle.std.specs.Prelude.{◌≡◌, ℕ, List, Some, None, slice_get, All}
use Rattle.qk_command.specs.Drawing.{drawn_values}
use Rattle.qk_core.specs.Program.{ProgramData}
use Rattle.qk_core.specs.Properties.{PropertyData}
use Rattle.qk_shrink.specs.Tuples.{candidates}
use Rattle.qk_splitmix.specs.SplitMix.{Generator}
use Rattle.qk_syntax.specs.PlainTrees.{PlainTrees}
use Rattle.qk_typed.specs.TypedValues.{HaveTypes}
use Rattle.qk_typed.specs.WellTyped.{IsWellTyped, types_of}
use Rattle.qk_value.specs.Data.{Data}
use Rattle.qk_wellformed.specs.StandsFor.{StandsFor}

-- each part of the program is typed, and each number in it is that of an entry of its table
abbrev pub ProgramsAreTyped : Type 0
ProgramsAreTyped = (trees : PlainTrees) (core : ProgramData) → StandsFor trees core → IsWellTyped core

-- what a property is judged on has the types of its binders
abbrev pub DrawnCasesAreTyped : Type 0
DrawnCasesAreTyped =
    (trees : PlainTrees) (core : ProgramData) → StandsFor trees core → (i : ℕ) (p : PropertyData) (size : ℕ) (g : Generator) (u : ℕ)
    → slice_get core.properties i ≡ Some p
    → (drawn_values core p size g u).crash ≡ None → HaveTypes core.kinds (types_of p.binders) (drawn_values core p size g u).values

-- .. and so have the candidates that are tried in its place
abbrev pub ShrunkCasesAreTyped : Type 0
ShrunkCasesAreTyped =
    (trees : PlainTrees) (core : ProgramData) → StandsFor trees core → (i : ℕ) (p : PropertyData) (values : List Data) (fuel : ℕ)
    → slice_get core.properties i ≡ Some p
    → HaveTypes core.kinds (types_of p.binders) values
    → All (HaveTypes core.kinds (types_of p.binders)) (candidates core p.binders values fuel)
