use Rattle.std.proofs.Common.{◌∙◌}
use Rattle.qk_core.specs.GenView.{view_gen}
use Rattle.qk_eval.proofs.AnswerLaws.{left_within}
use Rattle.qk_gen.specs.Drawing.{drawing}
use Rattle.qk_gen.proofs.PendingLaws.{and_then_itself}
use Rattle.qk_gen.proofs.UnitsLaws.{drawing_within}
use Rattle.qk_gen.proofs.drawing.draw.Goals as goal

pub returns-clause-left : goal.returns-clause-left
returns-clause-left c =
    let functions = c.args.core.now.functions in
    let generators = c.args.core.now.generators in
    let e = view_gen c.args.generator.now in
    let env = c.in_ok-bound.bound.items in
    left_within c.in_ok-answer.answer (drawing functions generators e env c.args.size c.args.g c.args.fuel) c.args.fuel
    (c.in_ok-answer.ensures.meaning ∙ c.in_ok-ending.ensures ∙ and_then_itself _) (drawing_within functions generators e env c.args.size c.args.g c.args.fuel)
