use Rattle.std.proofs.Common.{◌∙◌}
use Rattle.qk_core.specs.ExprView.{view_expr}
use Rattle.qk_eval.specs.Meaning.{meaning}
use Rattle.qk_eval.proofs.AnswerLaws.{left_within}
use Rattle.qk_eval.proofs.MeaningLaws.{and_then_itself}
use Rattle.qk_eval.proofs.UnitsLaws.{meaning_within}
use Rattle.qk_eval.proofs.evaluation.eval.Goals as goal

pub returns-clause-left : goal.returns-clause-left
returns-clause-left c =
    let functions = c.args.core.now.functions in
    let e = view_expr c.args.expr.now in
    left_within c.in_ok-answer.answer (meaning functions e c.in_ok-bound.bound.items c.args.fuel) c.args.fuel
    (c.in_ok-answer.ensures.meaning ∙ c.in_ok-ending.ensures ∙ and_then_itself _) (meaning_within functions e c.in_ok-bound.bound.items c.args.fuel)
