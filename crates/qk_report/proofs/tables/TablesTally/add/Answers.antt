use Rattle.std.proofs.Common.{◌≡◌, ◌∙◌, ap, sym}
use Rattle.qk_base.specs.Judged.{Judged, is_pass, passes}
use Rattle.qk_report.proofs.Stands.{stands_after}
use Rattle.qk_report.proofs.tables.TablesTally.add.Goals as goal

pub returns-in-Pass-clause-ok : goal.returns-in-Pass-clause-ok
returns-in-Pass-clause-ok c =
    let passed = ap passes (sym c.outcome.view_is) ∙ ap is_pass c.in-Pass.is in
    let marks = ap (λ (o : Judged). o.marks) c.outcome.view_is in
    stands_after c.add_marks.result c.args.self.now c.add_marks.new.self c.args.outcome.now _ c.add_marks.ensures.ok passed marks c.add_marks.ensures.property
