-- The commands that are left, from the state that was reached, come to what all come to.
use Rattle.std.proofs.Common.{◌≡◌, drop}
use Rattle.qk_value.specs.Data.{datas_of}
use Rattle.qk_command.specs.CommandLists.{kept_from}
use Rattle.qk_command.proofs.keeping.keeps_from.Given as goal

abbrev pub invariant-loop-step : goal.invariant-loop-step
invariant-loop-step l =
    kept_from l.core.functions l.model l.step l.state (datas_of (drop l.step l.commands)) l.left
    ≡ kept_from l.core.functions l.model 0 l.fn.first (datas_of l.commands) l.fn.fuel
