use Rattle.std.proofs.Common.{◌≡◌, ◌⊎◌, ℕ, ◌<◌, ◌≤◌, length}
use Rattle.qk_totals.specs.Totals.{times}
use Rattle.qk_pool.specs.Each.{Each}
use Rattle.qk_pool.specs.Slots.{AreRight, IsFilled}
use Rattle.qk_pool.specs.Workers.{IsRight, found_numbers}
use Rattle.qk_pool.proofs.slots.place.Given as goal

abbrev pub invariant-loop-next : goal.invariant-loop-next
invariant-loop-next g l = record {
  right : AreRight (IsRight (g.F.Feed.inputs l.feed) (g.T.Task.answers l.task)) l.slots.items;
  len : length l.slots.items ≡ length l.initial.slots.items;
  filled : (n : ℕ) → n < length l.slots.items → IsFilled l.slots.items n ⊎ (0 < times n (found_numbers l.found.items));
  low : (n : ℕ) → length l.slots.items ≤ n → times n (found_numbers l.found.items) ≡ 0;
  truth : Each (λ f. IsRight (g.F.Feed.inputs l.feed) (g.T.Task.answers l.task) f.number f.answer) l.found.items;
}

abbrev pub decreases-loop-next : goal.decreases-loop-next
decreases-loop-next g l = length l.found.items
