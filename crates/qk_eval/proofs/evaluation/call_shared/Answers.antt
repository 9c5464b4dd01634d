use Rattle.std.proofs.Common.{◌∙◌}
use Rattle.qk_eval.proofs.MeaningLaws.{and_then_itself}
use Rattle.qk_eval.proofs.UnitsLaws.{calling_called}
use Rattle.qk_eval.proofs.evaluation.call_shared.Goals as goal

pub returns : goal.returns
returns c =
    c.in_ok-ending.ensures ∙ and_then_itself _
    ∙ calling_called c.args.core.now.functions c.args.function c.args.args.items c.args.fuel
