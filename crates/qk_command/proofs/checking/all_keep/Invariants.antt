-- The binders that are left come to what all come to.
use Rattle.std.proofs.Common.{◌≡◌, drop}
use Rattle.qk_command.specs.Judging.{all_keep}
use Rattle.qk_command.proofs.checking.all_keep.Given as goal

abbrev pub invariant-loop-index : goal.invariant-loop-index
invariant-loop-index l =
    all_keep l.core (drop l.index l.binders) (drop l.index l.values) l.left ≡ all_keep l.core l.binders l.values l.fn.fuel
