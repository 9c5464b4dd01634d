use Rattle.std.proofs.Common.{◌≡◌, ℕ, ◌+◌, length}
use Rattle.qk_totals.specs.Totals.{times}
use Rattle.qk_pool.specs.Each.{Each}
use Rattle.qk_pool.specs.Workers.{IsBacked, found_numbers, weights_of}
use Rattle.qk_pool.proofs.slots.pour.Given as goal

abbrev pub invariant-loop-next : goal.invariant-loop-next
invariant-loop-next g l = Each (IsBacked (g.T.Task.answers l.task) (weights_of l.takers.items)) l.found.items × Each (IsBacked (g.T.Task.answers l.task) (weights_of l.takers.items)) l.all.items
    × ((n : ℕ) → times n (found_numbers l.all.items) + times n (found_numbers l.found.items) ≡ times n (found_numbers l.fn.all.items) + times n (found_numbers l.fn.found.items))

abbrev pub decreases-loop-next : goal.decreases-loop-next
decreases-loop-next g l = length l.found.items
