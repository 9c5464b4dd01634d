use Rattle.std.proofs.Common.{◌≡◌, ◌+◌, length}
use Rattle.qk_scan.specs.Each.{Each}
use Rattle.qk_scan.specs.Crew.{HasWorked}
use Rattle.qk_scan.specs.Slots.{AreRight, IsSettled}
use Rattle.qk_scan.proofs.scanning.settle.Given as goal

abbrev pub invariant-loop-worker : goal.invariant-loop-worker
invariant-loop-worker g l = record {
  right : AreRight (g.J.Jobs.answer_at l.jobs) l.slots.items × (length l.slots.items ≡ length l.fn.slots.items);
  all : length l.seats.items + length l.workers.items ≡ length l.fn.workers.items;
  done : Each (HasWorked l.board (g.J.Jobs.answer_at l.jobs) (g.J.Jobs.hits l.jobs)) l.workers.items;
  settled : Each (IsSettled l.board (g.J.Jobs.answer_at l.jobs) (g.J.Jobs.hits l.jobs) l.slots.items) l.seats.items;
}

abbrev pub decreases-loop-worker : goal.decreases-loop-worker
decreases-loop-worker g l = length l.workers.items
