use Rattle.std.proofs.Common.{arith}
use Rattle.std.proofs.lemmas.Grind.{common_steps}
use Rattle.qk_eval.proofs.SharedLaws.{weight_more}
use Rattle.qk_eval.proofs.shared.weight_all.Goals as goal

pub loop-part-preserved : goal.loop-part-preserved
loop-part-preserved c =
    let more = weight_more c.args.parts.now c.loop-part.part-index c.part-item.result c.loop-part-test.true in
    grind (arith, common_steps, more, c.part.invariant, c.part.view_is, c.part-item.is)
