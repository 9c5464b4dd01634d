use Rattle.qk_wellformed.proofs.ExpressionsStand.{expression_stands, expression_given, one_expression}
use Rattle.qk_wellformed.proofs.laws.expressions_stand.Goals as goal

pub returns : goal.returns
returns c = record { judged = λ d s tree t e h. expression_given d tree s t e h; stands = λ d s tree r h. expression_stands d tree s r h; one = λ d s tree t u e f h k. one_expression d s tree t u e f h k }
