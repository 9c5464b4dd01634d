-- What an answer says.
use Rattle.std.specs.Prelude.{ℕ, ◌≤◌, List, [], ◌∷◌}
use Rattle.qk_value.specs.Data.{Data}
use Rattle.qk_value.specs.Measures.{IsSmall}
use Rattle.qk_value.specs.View.{view_value}
use Rattle.qk_eval.specs.Meaning.{Evaluated, result, crash}
use Rattle.qk_eval.specs.declared.answer.Answer.{Answer}
use Rattle.qk_eval.specs.declared.answer.Answer.TheVariants.{Value, Crash}
use Rattle.qk_eval.specs.declared.ending.Ending.{Ending}
use Rattle.qk_eval.specs.declared.ending.Ending.TheVariants as endings

abbrev pub said : Answer → Evaluated Data
said (Value v u) = result (view_value v) u
said (Crash c) = crash c

abbrev pub ended : Ending → Evaluated Data
ended (endings.Value x u) = result x u
ended (endings.Crash c) = crash c

-- a value that is answered is small
abbrev pub IsSmallAnswer : Answer → Type 0
IsSmallAnswer (Value v u) = IsSmall (view_value v)
IsSmallAnswer (Crash c) = Unit {0}

-- no more units are left than these
abbrev pub LeavesWithin : ℕ → Answer → Type 0
LeavesWithin fuel (Value v u) = u ≤ fuel
LeavesWithin fuel (Crash c) = Unit {0}

-- each of these values is small
abbrev pub AreSmall : List Data → Type 0
AreSmall [] = Unit {0}
AreSmall (d ∷ ds) = IsSmall d × AreSmall ds
