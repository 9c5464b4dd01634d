use Rattle.std.proofs.Common.{◌≡◌, ◌∙◌, true}
use Rattle.qk_report.specs.Counted.{has_row, key_in}
use Rattle.qk_report.proofs.KeyCounts.{all_more, all_of_whole}
use Rattle.qk_report.proofs.tables.Tables.take_rows.Goals as goal

pub loop-key-preserved : goal.loop-key-preserved
loop-key-preserved c = record {
  property = c.in_ok-take_row.ensures.property ∙ c.loop-key.invariant.property;
  counts = λ key. c.in_ok-take_row.ensures.counts key ∙ c.loop-key.invariant.counts key;
  rows = all_more (λ key. has_row c.take_row.new.self (key_in key) ≡ true) c.args.keys.now c.loop-key.key-index c.key-item.result c.loop-key-test.true c.key-item.is
      (λ k d lt. c.in_ok-take_row.ensures.rows (key_in _) (c.loop-key.invariant.rows k d lt)) c.in_ok-take_row.ensures.row;
}

pub returns-clause-rows : goal.returns-clause-rows
returns-clause-rows c = all_of_whole (λ key. has_row c.loop-key.self (key_in key) ≡ true) c.args.keys.now c.loop-key.key-index c.loop-key-test.false c.loop-key.invariant.rows
