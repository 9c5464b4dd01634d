-- What an attempt comes to: values are drawn, and judged with all units anew.
use Rattle.std.specs.Prelude.{ℕ, Some, None}
use Rattle.qk_base.specs.Judged.{Judged}
use Rattle.qk_base.specs.declared.outcome.Verdict.TheVariants.{Fail}
use Rattle.qk_core.specs.Program.{ProgramData}
use Rattle.qk_core.specs.Properties.{PropertyData}
use Rattle.qk_splitmix.specs.SplitMix.{Generator}
use Rattle.qk_command.specs.Drawing.{DrawnValues, drawn_values}
use Rattle.qk_command.specs.Judging.{judged, no_marks}

-- a crash while drawing fails, with its cause
abbrev pub judged_drawn : ProgramData → PropertyData → ℕ → DrawnValues → Judged
judged_drawn c p u d = elim d.crash [ None ↦ judged c p d.values u | Some cause ↦ record { verdict = Fail cause; marks = no_marks } ]

abbrev pub attempted : ProgramData → PropertyData → ℕ → Generator → ℕ → Judged
attempted c p size g u = judged_drawn c p u (drawn_values c p size g u)
