-- What is left decides as the whole does.
use Rattle.std.proofs.Common.{◌≡◌, drop, map}
use Rattle.qk_generators.specs.Drawing.{draws_agree}
use Rattle.qk_generators.specs.DrawingView.{drawn_in}
use Rattle.qk_value.specs.View.{view_type}
use Rattle.qk_generators.proofs.drawn_types.draws_agree.Given as goal

abbrev pub invariant-loop-part : goal.invariant-loop-part
invariant-loop-part l = draws_agree (view_type l.ty) (map drawn_in l.parts) ≡ draws_agree (view_type l.ty) (map drawn_in (drop l.part-index l.parts))
