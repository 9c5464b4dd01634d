-- What is left decides as the whole does.
use Rattle.std.proofs.Common.{◌≡◌, drop, map, sum_by}
use Rattle.qk_generators.specs.DrawingView.{part_in}
use Rattle.qk_generators.proofs.weights.has_weight.Given as goal

abbrev pub invariant-loop-part : goal.invariant-loop-part
invariant-loop-part l = sum_by (λ a. a.weight) (map part_in l.parts) ≡ sum_by (λ a. a.weight) (map part_in (drop l.part-index l.parts))
