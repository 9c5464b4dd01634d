use Rattle.std.proofs.Common.{arith}
use Rattle.std.proofs.lemmas.Grind.{common_steps}
use Rattle.qk_eval.proofs.ListLaws.{item_falls}
use Rattle.qk_eval.proofs.+to_value.Goals as goal

pub conversion::to_values-to_value-requires : goal.conversion::to_values-to_value-requires
conversion::to_values-to_value-requires t c =
    let falls = item_falls c.args.parts.now c.loop-part.part-index c.part-item.result c.loop-part-test.true in
    (grind (arith, common_steps, falls, c.part-item.is, c.decreases), tt)
