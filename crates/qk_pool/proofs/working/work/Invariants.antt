use Rattle.std.proofs.Common.{◌≡◌}
use Rattle.qk_totals.specs.Totals.{total}
use Rattle.qk_pool.specs.Each.{Each}
use Rattle.qk_pool.specs.Numbers.{numbers_of, ends_of}
use Rattle.qk_pool.specs.Tokens.{taken_of, IsTakerOf}
use Rattle.qk_pool.specs.Workers.{IsBacked, found_numbers}
use Rattle.qk_pool.proofs.working.work.Given as goal

abbrev pub invariant-loop : goal.invariant-loop
invariant-loop g l = record {
  taker : IsTakerOf l.relay l.worker.taker;
  on : ends_of (taken_of l.worker.taker) ≡ 0;
  found : Each (IsBacked (g.T.Task.answers l.task) (λ h. total h (taken_of l.worker.taker))) l.worker.found.items;
  numbers : found_numbers l.worker.found.items ≡ numbers_of (taken_of l.worker.taker);
}
