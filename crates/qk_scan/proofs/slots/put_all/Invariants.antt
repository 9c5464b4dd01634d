use Rattle.std.proofs.Common.{◌≡◌, ℕ, ◌<◌, ◌⊎◌, length}
use Rattle.qk_scan.specs.Each.{Each}
use Rattle.qk_scan.specs.Work.{answered}
use Rattle.qk_scan.specs.Slots.{AreRight, IsFilled}
use Rattle.qk_scan.proofs.slots.put_all.Given as goal

abbrev pub invariant-loop-next : goal.invariant-loop-next
invariant-loop-next g l = record {
  right : AreRight (g.J.Jobs.answer_at l.jobs) l.slots.items;
  len : length l.slots.items ≡ length l.initial.slots.items;
  stays : (n : ℕ) → IsFilled l.initial.slots.items n → IsFilled l.slots.items n;
  truth : Each (λ f. f.answer ≡ g.J.Jobs.answer_at l.jobs f.number) l.found.items;
  filled : (n : ℕ) → n < length l.slots.items → 0 < answered n l.initial.found.items → IsFilled l.slots.items n ⊎ (0 < answered n l.found.items);
}

abbrev pub decreases-loop-next : goal.decreases-loop-next
decreases-loop-next g l = length l.found.items
