use Rattle.qk_report.proofs.TextLaws.{added, join}
use Rattle.qk_enum_report.proofs.lines.put_failed_line.Goals as goal

pub returns : goal.returns
returns c =
    added _ c.args.text.now.items _ _ _ _
    (join c.args.text.now.items _ _ _ _ (join c.args.text.now.items _ _ _ _ c.in_ok-append.ensures.ok c.in_ok-put_named.ensures) c.in_ok-put_discards.ensures)
    c.put.ensures
