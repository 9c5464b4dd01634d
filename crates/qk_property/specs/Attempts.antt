-- The attempts of a property, by their number and size.
use Rattle.std.specs.Prelude.{ℕ}
use Rattle.qk_base.specs.Judged.{Judged}
use Rattle.qk_command.specs.Attempt.{attempted}
use Rattle.qk_command.specs.Drawing.{DrawnValues, drawn_values}
use Rattle.qk_core.specs.Program.{ProgramData}
use Rattle.qk_core.specs.Properties.{PropertyData}
use Rattle.qk_splitmix.specs.Attempts.{attempt_gen}

-- the outcome of attempt k at a size, of a run with that seed and with so many units of fuel for each drawing and each judging
abbrev pub outcome : ProgramData → PropertyData → ℕ → ℕ → ℕ → ℕ → Judged
outcome c p seed fuel k size = attempted c p size (attempt_gen seed k) fuel

-- what is drawn for attempt k at a size
abbrev pub drawn_at : ProgramData → PropertyData → ℕ → ℕ → ℕ → ℕ → DrawnValues
drawn_at c p seed fuel k size = drawn_values c p size (attempt_gen seed k) fuel
