use Rattle.std.proofs.Common.{◌≡◌, ◌++◌, map, reverse, length}
use Rattle.qk_core.specs.GenView.{view_gen}
use Rattle.qk_generators.specs.Drawing.{bare}
use Rattle.qk_generators.specs.DrawingView.{drawn_in}
use Rattle.qk_generators.proofs.drawing.bare.Given as goal

-- what is left, and what was taken, the last first
abbrev pub invariant-loop-part : goal.invariant-loop-part
invariant-loop-part l = bare (map drawn_in l.fn.parts.items) ≡ bare (map drawn_in l.parts.items) ++ reverse (map view_gen l.backward.items)

abbrev pub decreases-loop-part : goal.decreases-loop-part
decreases-loop-part l = length l.parts.items
