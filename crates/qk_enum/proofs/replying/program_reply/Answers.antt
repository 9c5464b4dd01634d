use Rattle.std.proofs.Common.{◌∙◌, ap}
use Rattle.qk_enum_report.specs.Report.{report_of, status_of}
use Rattle.qk_enum.proofs.replying.program_reply.Goals as goal

pub returns : goal.returns
returns g c =
    let told = c.case_settings-cases.ensures.told in
    (c.in_ok-report.ensures.status ∙ ap (λ r. status_of r c.args.core.now) told, c.in_ok-report.ensures.text ∙ ap (λ r. report_of r c.args.core.now) told)
