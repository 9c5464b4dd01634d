-- The data that the answers on command lists stand for.
use Rattle.qk_command.specs.CommandLists.{Kept, keeps_all, first_broken, keeping_crashed, Ran, held, broke}
use Rattle.qk_command.specs.Steps.{Judging, goes_on, discards, fails}
use Rattle.qk_command.specs.declared.command_lists.Kept.{Kept as CodeKept}
use Rattle.qk_command.specs.declared.command_lists.Kept.TheVariants as keeping
use Rattle.qk_command.specs.declared.command_lists.Ran.{Ran as CodeRan}
use Rattle.qk_command.specs.declared.command_lists.Ran.TheVariants as running
use Rattle.qk_command.specs.declared.step.Step.{Step}
use Rattle.qk_command.specs.declared.step.Step.TheVariants as steps

abbrev pub kept_in : CodeKept → Kept
kept_in (keeping.Yes u) = keeps_all u
kept_in (keeping.No step) = first_broken step
kept_in (keeping.Crash c) = keeping_crashed c

abbrev pub ran_in : CodeRan → Ran
ran_in (running.Held u) = held u
ran_in (running.Broke step c) = broke step c

abbrev pub step_in : Step → Judging (Unit {0})
step_in (steps.On u) = goes_on tt u
step_in steps.Discard = discards
step_in (steps.Fail c) = fails c
