-- The commands that are left, from the states that were reached, come to what all come to.
use Rattle.std.proofs.Common.{◌≡◌, drop}
use Rattle.qk_value.specs.Data.{datas_of}
use Rattle.qk_command.specs.CommandLists.{ran_from}
use Rattle.qk_command.proofs.running.runs_from.Given as goal

abbrev pub invariant-loop-step : goal.invariant-loop-step
invariant-loop-step l =
    ran_from l.core.functions l.model l.step l.state l.system (datas_of (drop l.step l.commands)) l.left
    ≡ ran_from l.core.functions l.model 0 l.fn.first l.fn.first_system (datas_of l.commands) l.fn.fuel
