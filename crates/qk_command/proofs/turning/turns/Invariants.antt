-- The turns that are left, after the commands so far, come to what all come to.
use Rattle.std.proofs.Common.{◌≡◌, ◌-◌, []}
use Rattle.qk_command.specs.Drawing.{turns}
use Rattle.qk_command.proofs.turning.turns.Given as goal

abbrev pub invariant-loop : goal.invariant-loop
invariant-loop l = turns l.core l.model l.size (l.count - l.counter) l.commands l.state l.kept l.left ≡ turns l.core l.model l.size l.count [] l.fn.first l.fn.g l.fn.fuel
