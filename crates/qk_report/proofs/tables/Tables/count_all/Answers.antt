use Rattle.std.proofs.Common.{◌≡◌, ◌∙◌}
use Rattle.qk_report.specs.Counted.{key_in}
use Rattle.qk_report.proofs.KeyCounts.{among_more, raised_more}
use Rattle.qk_report.proofs.tables.Tables.count_all.Goals as goal

pub loop-key-preserved : goal.loop-key-preserved
loop-key-preserved c = record {
  property = c.count.ensures.property ∙ c.loop-key.invariant.property;
  counts = λ key n h. raised_more _ n _ _ _ (c.count.ensures.counts key _ (c.loop-key.invariant.counts key n h)) (among_more key_in key c.args.keys.now c.loop-key.key-index c.key-item.result c.loop-key-test.true c.key-item.is);
  rows = λ k d lt. c.count.ensures.rows (key_in _) ∙ c.loop-key.invariant.rows k d lt;
}
