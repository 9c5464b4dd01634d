use Rattle.std.proofs.Common.{◌∙◌}
use Rattle.qk_eval.proofs.AnswerLaws.{left_within}
use Rattle.qk_gen.specs.Drawing.{drawn}
use Rattle.qk_gen.proofs.UnitsLaws.{drawn_within}
use Rattle.qk_gen.proofs.drawing.draw_user.Goals as goal

pub returns-clause-left : goal.returns-clause-left
returns-clause-left c =
    let functions = c.args.core.now.functions in
    let generators = c.args.core.now.generators in
    let args = c.in_ok-parts.parts.items in
    left_within c.in_ok-answer.answer (drawn functions generators c.args.generator args c.args.size c.args.g c.args.fuel) c.args.fuel
    (c.in_ok-answer.ensures.meaning ∙ c.in_ok-ending.ensures) (drawn_within functions generators c.args.generator args c.args.size c.args.g c.args.fuel)
