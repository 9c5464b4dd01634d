-- The items so far and those that are still wanted make all.
use Rattle.std.proofs.Common.{◌≡◌, ◌++◌, take}
use Rattle.qk_value.specs.Data.{listed_data}
use Rattle.qk_eval.specs.Forms.{to_come}
use Rattle.qk_eval.specs.Parts.{items_of}
use Rattle.qk_shrink.proofs.lists.front.Given as goal

abbrev pub invariant-loop-left : goal.invariant-loop-left
invariant-loop-left l = l.all.items ++ take l.left (listed_data (to_come l.rest)) ≡ take l.fn.many (listed_data (items_of l.fn.value))

abbrev pub decreases-loop-left : goal.decreases-loop-left
decreases-loop-left l = l.left
