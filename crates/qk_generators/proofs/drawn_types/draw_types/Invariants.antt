-- What is left decides as the whole does.
use Rattle.std.proofs.Common.{◌≡◌, drop, map}
use Rattle.qk_generators.specs.Drawing.{draw_types}
use Rattle.qk_generators.specs.DrawingView.{drawn_in}
use Rattle.qk_value.specs.View.{view_type}
use Rattle.qk_generators.proofs.drawn_types.draw_types.Given as goal

abbrev pub invariant-loop-i : goal.invariant-loop-i
invariant-loop-i l =
    draw_types (map view_type l.types) (map drawn_in l.parts) ≡ draw_types (map view_type (drop l.i l.types)) (map drawn_in (drop l.i l.parts))
