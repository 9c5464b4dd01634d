use Rattle.std.proofs.Common.{◌≡◌, ◌-◌, ◌≤◌, length}
use Rattle.qk_scan.specs.Slots.{AreRight}
use Rattle.qk_scan.proofs.slots.empty_slots.Given as goal

abbrev pub invariant-loop-made : goal.invariant-loop-made
invariant-loop-made g l = record { in_range : l.made ≤ l.count; len : length l.slots.items ≡ l.made; right : AreRight (g.J.Jobs.answer_at l.jobs) l.slots.items }

abbrev pub decreases-loop-made : goal.decreases-loop-made
decreases-loop-made g l = l.count - l.made
