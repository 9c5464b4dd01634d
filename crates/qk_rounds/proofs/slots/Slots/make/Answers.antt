use Rattle.std.proofs.Common.{◌≡◌, None, length, ap, ◌∙◌, arith}
use Rattle.std.proofs.lemmas.List.{length-replicate}
use Rattle.qk_rounds.specs.Windows.{Slot}
use Rattle.qk_rounds.proofs.slots.Slots.make.Goals as goal

pub invariant_of-result : goal.invariant_of-result
invariant_of-result c =
    let many : length c.loop.slots.items ≡ c.loop.counter = ap length c.loop.invariant ∙ length-replicate {A = Slot} c.loop.counter None in
    (omega arith, omega arith)
