use Rattle.std.proofs.Common.{◌≡◌, ℕ, ◌+◌, length, All}
use Rattle.qk_totals.specs.Totals.{times}
use Rattle.qk_pool.specs.Each.{Each}
use Rattle.qk_pool.specs.Numbers.{ends_of, has_number}
use Rattle.qk_pool.specs.Tokens.{taken_of, IsTakerOf}
use Rattle.qk_pool.specs.Workers.{IsBacked, IsDone, found_numbers, weights_of}
use Rattle.qk_pool.proofs.slots.part.Given as goal

abbrev pub invariant-loop-worker : goal.invariant-loop-worker
invariant-loop-worker g l = record {
  count : length l.takers.items + length l.workers.items ≡ length l.fn.workers.items;
  done : Each (IsDone l.relay (g.T.Task.answers l.task)) l.workers.items;
  ended : All (λ t. IsTakerOf l.relay t × (ends_of (taken_of t) ≡ 1)) l.takers.items;
  found : Each (IsBacked (g.T.Task.answers l.task) (weights_of l.takers.items)) l.all.items;
  counts : (n : ℕ) → times n (found_numbers l.all.items) ≡ weights_of l.takers.items (has_number n);
}

abbrev pub decreases-loop-worker : goal.decreases-loop-worker
decreases-loop-worker g l = length l.workers.items
