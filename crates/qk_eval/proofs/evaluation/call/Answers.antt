use Rattle.std.proofs.Common.{◌∙◌}
use Rattle.qk_eval.specs.Meaning.{called}
use Rattle.qk_eval.proofs.AnswerLaws.{left_within}
use Rattle.qk_eval.proofs.UnitsLaws.{called_within}
use Rattle.qk_eval.proofs.evaluation.call.Goals as goal

pub returns-clause-left : goal.returns-clause-left
returns-clause-left c =
    let functions = c.args.core.now.functions in
    let xs = c.in_ok-parts.parts.items in
    left_within c.in_ok-answer.answer (called functions c.args.function xs c.args.fuel) c.args.fuel
    (c.in_ok-answer.ensures.meaning ∙ c.in_ok-ending.ensures) (called_within functions c.args.function xs c.args.fuel)
