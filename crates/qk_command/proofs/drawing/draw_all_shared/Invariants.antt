-- The binders that are left, after the values so far, come to what all come to.
use Rattle.std.proofs.Common.{◌≡◌, [], drop}
use Rattle.qk_command.specs.Drawing.{drawn_from}
use Rattle.qk_command.proofs.drawing.draw_all_shared.Given as goal

abbrev pub invariant-loop-binder : goal.invariant-loop-binder
invariant-loop-binder l =
    drawn_from l.core (drop l.binder-index l.property.binders) l.values.items l.size l.kept l.left ≡ drawn_from l.core l.property.binders [] l.size l.fn.g l.fn.fuel
