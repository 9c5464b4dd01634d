use Rattle.std.proofs.Common.{◌∙◌, arith}
use Rattle.qk_generators.specs.DrawingView.{drawn_in}
use Rattle.qk_value.specs.View.{view_type}
use Rattle.qk_generators.proofs.DrawingLaws.{none_left}
use Rattle.qk_generators.proofs.drawn_types.draw_types.Goals as goal

pub returns-clause-ok : goal.returns-clause-ok
returns-clause-ok c = c.loop-i.invariant ∙ none_left view_type drawn_in c.args.types.now c.args.parts.now c.loop-i.i (omega arith)
