use Rattle.std.proofs.Common.{◌≡◌}
use Rattle.qk_report.specs.WantedView.{wanted_behind}
use Rattle.qk_report.proofs.CoverLaws.{next_cover}
use Rattle.qk_report.proofs.table_lines.put_cover_lines.Goals as goal

pub loop-index-preserved : goal.loop-index-preserved
loop-index-preserved c = λ outcomes fits.
    next_cover wanted_behind c.deref-wanted-items.result.now c.loop-index.index _ outcomes _ _ _ _ _ c.loop-index-test.true (c.covered-count.ensures outcomes fits.stands) fits.successes_are c.in_ok-put_cover_line.ensures
    (c.loop-index.invariant outcomes fits)
