-- The copies so far and what is left make the whole.
use Rattle.std.proofs.Common.{◌≡◌, ◌++◌, drop, map}
use Rattle.qk_value.specs.View.{view_value}
use Rattle.qk_value.proofs.value.+copy.Given as goal

abbrev pub invariant-copy_all-loop-item : goal.invariant-copy_all-loop-item
invariant-copy_all-loop-item l = map view_value (l.copies.items ++ drop l.item-index l.items) ≡ map view_value l.items
