-- The rows that the counts left give make the rows whole.
use Rattle.std.proofs.Common.{◌≡◌, ◌++◌, filter_map, map}
use Rattle.qk_report.specs.Counted.{key_in}
use Rattle.qk_report.specs.RowsView.{row_behind, row_under, rows_in, section_in}
use Rattle.qk_report.proofs.tables.Tables.rows.Given as goal

abbrev pub invariant-loop-key : goal.invariant-loop-key
invariant-loop-key l = map row_behind l.rows.items ++ filter_map (λ e. row_under (section_in l.section) (key_in e.0) e.1) l.key-iterator ≡ rows_in l.self (section_in l.section)
