-- The lines of the rows that are left make the text whole.
use Rattle.std.proofs.Common.{◌≡◌, ◌++◌, drop, map}
use Rattle.std.specs.List.{flat_map}
use Rattle.qk_report.specs.RowsView.{row_behind}
use Rattle.qk_report.specs.TableLines.{row_line}
use Rattle.qk_report.proofs.table_lines.put_row_lines.Given as goal

abbrev pub invariant-loop-row : goal.invariant-loop-row
invariant-loop-row l =
    l.text.items ++ flat_map (row_line l.total) (map row_behind (drop l.row-index l.rows)) ≡ l.fn.text.items ++ flat_map (row_line l.total) (map row_behind l.rows)
