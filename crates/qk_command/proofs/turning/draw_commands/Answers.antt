use Rattle.std.proofs.Common.{◌∙◌}
use Rattle.qk_eval.proofs.AnswerLaws.{left_within}
use Rattle.qk_command.specs.Drawing.{drawing_commands}
use Rattle.qk_command.proofs.DrawingLaws.{commands_within}
use Rattle.qk_command.proofs.turning.draw_commands.Goals as goal

pub returns-clause-left : goal.returns-clause-left
returns-clause-left c =
    let core = c.args.core.now in
    let model = c.model.result.now in
    left_within c.in_ok-answer.answer (drawing_commands core model c.args.size c.args.g c.args.fuel) c.args.fuel
    (c.in_ok-answer.ensures.meaning ∙ c.in_ok-ending.ensures) (commands_within core model c.args.size c.args.g c.args.fuel)
