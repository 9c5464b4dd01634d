use Rattle.qk_report.proofs.TextLaws.{added, join}
use Rattle.qk_enum_report.proofs.lines.put_totals_line.Goals as goal

pub returns : goal.returns
returns c =
    added _ c.args.text.now.items _ _ _ _
    (join c.args.text.now.items _ _ _ _ (join c.args.text.now.items _ _ _ _ c.in_ok-put_named.ensures c.in_ok-put_named-2.ensures) c.in_ok-put_named-3.ensures)
    c.put.ensures
