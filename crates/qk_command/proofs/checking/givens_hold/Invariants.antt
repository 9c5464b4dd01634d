-- The givens that are left come to what all come to.
use Rattle.std.proofs.Common.{◌≡◌, drop, map}
use Rattle.qk_core.specs.ExprView.{view_expr}
use Rattle.qk_command.specs.Judging.{givens_hold}
use Rattle.qk_command.proofs.checking.givens_hold.Given as goal

abbrev pub invariant-loop-given : goal.invariant-loop-given
invariant-loop-given l =
    givens_hold l.core.functions (map view_expr (drop l.given-index l.givens)) l.env l.left ≡ givens_hold l.core.functions (map view_expr l.givens) l.env l.fn.fuel
