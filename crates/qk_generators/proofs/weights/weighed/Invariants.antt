use Rattle.std.proofs.Common.{◌≡◌, ◌++◌, map, reverse, length}
use Rattle.qk_core.specs.GenView.{view_weighted}
use Rattle.qk_generators.specs.DrawingView.{part_in}
use Rattle.qk_generators.proofs.weights.weighed.Given as goal

-- what is left, and what was taken, the last first
abbrev pub invariant-loop-part : goal.invariant-loop-part
invariant-loop-part l =
    map (λ a. (a.weight, a.body.gen)) (map part_in l.fn.parts.items) ≡ map (λ a. (a.weight, a.body.gen)) (map part_in l.parts.items) ++ reverse (map view_weighted l.backward.items)

abbrev pub decreases-loop-part : goal.decreases-loop-part
decreases-loop-part l = length l.parts.items
