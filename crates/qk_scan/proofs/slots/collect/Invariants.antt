use Rattle.std.proofs.Common.{◌≡◌, ℕ, ◌-◌, ◌<◌, ◌≤◌, ◌++◌, length}
use Rattle.qk_scan.specs.Prefix.{prefix_to_hit, answers_from}
use Rattle.qk_scan.specs.Slots.{AreRight, IsFilled}
use Rattle.qk_scan.proofs.slots.collect.Given as goal

abbrev pub invariant-loop-index : goal.invariant-loop-index
invariant-loop-index g l = record {
  in_range : (l.index ≤ l.count) × (l.index ≤ l.bound);
  len : length l.slots.items ≡ g.J.Jobs.total l.jobs;
  right : AreRight (g.J.Jobs.answer_at l.jobs) l.slots.items;
  filled : (n : ℕ) → l.index ≤ n → n < g.J.Jobs.total l.jobs → n ≤ l.bound → IsFilled l.slots.items n;
  so_far : prefix_to_hit (g.J.Jobs.hits l.jobs) (answers_from (g.J.Jobs.answer_at l.jobs) 0 (g.J.Jobs.total l.jobs)) ≡ l.found.items ++ prefix_to_hit (g.J.Jobs.hits l.jobs) (answers_from (g.J.Jobs.answer_at l.jobs) l.index (g.J.Jobs.total l.jobs - l.index));
}

abbrev pub decreases-loop-index : goal.decreases-loop-index
decreases-loop-index g l = l.count - l.index
