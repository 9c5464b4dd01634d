use Rattle.std.proofs.Common.{◌≡◌, ◌++◌, reverse, length}
use Rattle.qk_names.proofs.lists.reversed.Given as goal

-- what was turned, and what is left
abbrev pub invariant-loop-item : goal.invariant-loop-item
invariant-loop-item g l = reverse l.fn.items.items ≡ l.other.items ++ reverse l.items.items

abbrev pub decreases-loop-item : goal.decreases-loop-item
decreases-loop-item g l = length l.items.items
