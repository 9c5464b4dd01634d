-- What a report tells of a property that fails is typed.
use Rattle.std.specs.Prelude.{◌≡◌, ℕ, List, Some, None, length, take, slice_get}
use Rattle.qk_command.specs.Drawing.{DrawnValues}
use Rattle.qk_core.specs.Program.{ProgramData}
use Rattle.qk_core.specs.Properties.{PropertyData}
use Rattle.qk_minimise.specs.Minimal.{Minimal}
use Rattle.qk_property.specs.Attempts.{drawn_at}
use Rattle.qk_property.specs.Replayed.{replayed}
use Rattle.qk_property.specs.Settings.{ReportSettings}
use Rattle.qk_property.specs.Shrunk.{IsShrunk}
use Rattle.qk_syntax.specs.PlainTrees.{PlainTrees}
use Rattle.qk_typed.specs.TypedValues.{HaveTypes}
use Rattle.qk_typed.specs.WellTyped.{types_of}
use Rattle.qk_wellformed.specs.StandsFor.{StandsFor}

-- the values have the types of the first binders, and where no drawing crashed there is one for each binder
pub record IsTypedPoint (c : ProgramData) (p : PropertyData) (point : DrawnValues) : Type 0 where
  pub first : HaveTypes c.kinds (take (length point.values) (types_of p.binders)) point.values
  pub all : point.crash ≡ None → HaveTypes c.kinds (types_of p.binders) point.values

-- what the values of an attempt are shrunk to, greedily or not
abbrev pub ShrunkPointsAreTyped : Type 0
ShrunkPointsAreTyped =
    (trees : PlainTrees) (core : ProgramData) → StandsFor trees core
    → (i : ℕ) (p : PropertyData) (s : ReportSettings) (k size : ℕ) (m : Minimal DrawnValues) → slice_get core.properties i ≡ Some p
    → IsShrunk s core p (drawn_at core p s.seed s.fuel k size) m → IsTypedPoint core p m.point

-- .. and where the path of a token leads
abbrev pub ReplayedPointsAreTyped : Type 0
ReplayedPointsAreTyped =
    (trees : PlainTrees) (core : ProgramData) → StandsFor trees core
    → (i : ℕ) (p : PropertyData) (seed fuel k size : ℕ) (path : List ℕ) (point : DrawnValues) → slice_get core.properties i ≡ Some p
    → replayed core p seed fuel k size path ≡ Some point → IsTypedPoint core p point
