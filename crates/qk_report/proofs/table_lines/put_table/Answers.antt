use Rattle.std.proofs.Common.{rules, ◌≡◌, ◌∙◌, ◌<◌, ◌++◌, List, ap, length, map, take}
use Rattle.std.specs.List.{flat_map}
use Rattle.qk_report.specs.RowsView.{row_behind, section_in}
use Rattle.qk_report.specs.TableLines.{heading, row_line}
use Rattle.qk_report.proofs.TableLaws.{table_of}
use Rattle.qk_report.proofs.TextLaws.{added_as, join}
use Rattle.qk_report.proofs.table_lines.put_table.Goals as goal

pub returns : goal.returns
returns c =
    let old = c.args.text.now.items in
    let some : 0 < length c.args.rows.now = search rules in
    let lines = join old _ _ _ _ c.in_ok-put_heading.ensures (c.in_ok-put_row_lines.ensures ∙ ap (λ rows. c.put_heading.new.text.items ++ flat_map (row_line c.args.total) (map row_behind rows)) c.first_rows.ensures) in
    added_as c.put_more_line.result old _ _ _ _ _ lines c.put_more_line.ensures (table_of row_behind (heading (section_in c.args.section)) c.args.total c.args.rows.now some)
