use Rattle.std.proofs.Common.{◌≡◌, ◌∙◌, ◌++◌, ap, map, sym}
use Rattle.std.proofs.lemmas.List.{append-nil}
use Rattle.qk_report.specs.RowsView.{row_behind, section_in}
use Rattle.qk_report.proofs.RowCounts.{rows_are}
use Rattle.qk_report.proofs.tables.Tables.rows.Goals as goal

pub returns : goal.returns
returns c = λ outcomes stands.
    let ended = c.in-None.ensures.steps.0 in
    let found = rw (ended, append-nil) at c.loop-key.invariant in
    rows_are c.args.self.now (section_in c.args.section) outcomes c.loop-key.rows.items c.sort.new.self.items stands c.requires c.iter-key-items.ensures.unique found c.sort.ensures.permutation c.in_ok-sort.ensures.sorted
