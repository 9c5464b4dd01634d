-- One command of a list, and what follows.
use Rattle.std.specs.Prelude.{ℕ, ◌+◌, List}
use Rattle.qk_core.specs.Definitions.{FunctionData, ModelData}
use Rattle.qk_value.specs.Data.{Datas}
use Rattle.qk_command.specs.CommandLists.{Kept, first_broken, keeping_crashed, kept_from, Ran, broke, ran_from}
use Rattle.qk_command.specs.declared.keeping.Passed.{Passed}
use Rattle.qk_command.specs.declared.keeping.Passed.TheVariants as passed
use Rattle.qk_command.specs.declared.running.Moved.{Moved}
use Rattle.qk_command.specs.declared.running.Moved.TheVariants as moved

-- what follows a command that was asked for its precondition
abbrev pub passed_then : List FunctionData → ModelData → ℕ → Datas → Passed → Kept
passed_then functions m step rest (passed.On s u) = kept_from functions m (step + 1) s rest u
passed_then functions m step rest passed.Broken = first_broken step
passed_then functions m step rest (passed.Crash c) = keeping_crashed c

-- what follows a command that a system ran
abbrev pub moved_then : List FunctionData → ModelData → ℕ → Datas → Moved → Ran
moved_then functions m step rest (moved.On s r u) = ran_from functions m (step + 1) s r rest u
moved_then functions m step rest (moved.Broke c) = broke step c
