-- What a failing point is shrunk to.
use Rattle.std.specs.Prelude.{◌≡◌, Bool, true, false, None}
use Rattle.qk_command.specs.Drawing.{DrawnValues}
use Rattle.qk_core.specs.Program.{ProgramData}
use Rattle.qk_core.specs.Properties.{PropertyData}
use Rattle.qk_minimise.specs.Descent.{descent}
use Rattle.qk_minimise.specs.Greedy.{IsMinimum}
use Rattle.qk_minimise.specs.Minimal.{Minimal, minimal_of}
use Rattle.qk_property.specs.Points.{children_at, fails_at}
use Rattle.qk_property.specs.Settings.{ReportSettings}

-- greedy shrinking finds one of the minima below the point; else it is that of the descent, each step to the first failing candidate
abbrev pub is_shrunk : Bool → ReportSettings → ProgramData → PropertyData → DrawnValues → Minimal DrawnValues → Type 0
is_shrunk false s c p point m = m ≡ minimal_of (descent (children_at c p s.fuel) (fails_at c p s.fuel) s.shrinks point)
is_shrunk true s c p point m = IsMinimum (children_at c p s.fuel) (fails_at c p s.fuel) point s.shrinks m.point m.path m.limit_met × (m.tried ≡ None)

abbrev pub IsShrunk : ReportSettings → ProgramData → PropertyData → DrawnValues → Minimal DrawnValues → Type 0
IsShrunk s c p point m = is_shrunk s.greedy s c p point m
