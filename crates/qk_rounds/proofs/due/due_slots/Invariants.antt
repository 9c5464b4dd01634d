use Rattle.std.proofs.Common.{◌≡◌, ◌++◌, drop}
use Rattle.qk_rounds.specs.Due.{due_at}
use Rattle.qk_rounds.proofs.due.due_slots.Given as goal

abbrev pub invariant-loop-i : goal.invariant-loop-i
invariant-loop-i l = l.due.items ++ due_at l.i (drop l.i l.folded) ≡ due_at 0 l.folded
