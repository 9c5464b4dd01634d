use Rattle.std.proofs.Common.{◌≡◌, None, replicate}
use Rattle.qk_rounds.proofs.slots.Slots.make.Given as goal

abbrev pub invariant-loop : goal.invariant-loop
invariant-loop l = l.slots.items ≡ replicate l.counter None
