use Rattle.std.proofs.Common.{◌≡◌, ◌++◌, map, reverse, length}
use Rattle.qk_core.specs.ExprView.{view_expr}
use Rattle.qk_typing.specs.Operators.{plain}
use Rattle.qk_typing.specs.TablesView.{typed_in}
use Rattle.qk_typing.proofs.operators.plain.Given as goal

-- what is left, and what was taken, the last first
abbrev pub invariant-loop-part : goal.invariant-loop-part
invariant-loop-part l = plain (map typed_in l.fn.parts.items) ≡ plain (map typed_in l.parts.items) ++ reverse (map view_expr l.backward.items)

abbrev pub decreases-loop-part : goal.decreases-loop-part
decreases-loop-part l = length l.parts.items
