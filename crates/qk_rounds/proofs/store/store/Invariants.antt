use Rattle.std.proofs.Common.{◌≡◌, ◌≤◌, length}
use Rattle.qk_rounds.specs.Placed.{placed}
use Rattle.qk_rounds.proofs.store.store.Given as goal

abbrev pub invariant-loop-outcome : goal.invariant-loop-outcome
invariant-loop-outcome l = record {
  told : placed l.due l.answers.items l.slots ≡ placed l.fn.due l.fn.answers.items l.fn.slots;
  few : length l.answers.items ≤ length l.due;
  same_length : length l.slots ≡ length l.fn.slots;
}

abbrev pub decreases-loop-outcome : goal.decreases-loop-outcome
decreases-loop-outcome l = length l.answers.items
