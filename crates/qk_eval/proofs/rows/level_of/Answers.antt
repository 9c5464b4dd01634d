use Rattle.std.proofs.Common.{◌∙◌, sym, ap}
use Rattle.qk_value.specs.Measures.{depth}
use Rattle.qk_eval.proofs.RowLaws.{level_next}
use Rattle.qk_eval.proofs.rows.level_of.Goals as goal

pub loop-item-preserved : goal.loop-item-preserved
loop-item-preserved c =
    level_next c.depth-level.result c.loop-item.item-index c.args.items.now c.item-item.result c.loop-item-test.true c.loop-item.invariant
    (sym (c.depth.ensures ∙ ap depth c.item-item.is) ∙ c.if-depth-level.false)
