use Rattle.std.proofs.Common.{◌≡◌, ℕ, ◌<◌, ◌≤◌, length}
use Rattle.qk_pool.specs.Slots.{AreRight, InPlace, IsFilled}
use Rattle.qk_pool.specs.Workers.{IsRight}
use Rattle.qk_pool.proofs.slots.collect.Given as goal

abbrev pub invariant-loop-index : goal.invariant-loop-index
invariant-loop-index g l = record {
  len : length l.slots.items ≡ l.fn.count;
  right : AreRight (IsRight (g.F.Feed.inputs l.feed) (g.T.Task.answers l.task)) l.slots.items;
  filled : (n : ℕ) → l.index ≤ n → n < l.fn.count → IsFilled l.slots.items n;
  count : length l.list.items ≡ l.index;
  places : InPlace (IsRight (g.F.Feed.inputs l.feed) (g.T.Task.answers l.task)) 0 l.list.items;
}
