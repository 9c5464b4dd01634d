use Rattle.std.proofs.Common.{get_or, [], sym, subst}
use Rattle.std.proofs.lemmas.Result.{IfOk-weaker}
use Rattle.qk_eval.specs.Answers.{AreSmall}
use Rattle.qk_series.specs.Cases.{CaseData, cases as all_cases}
use Rattle.qk_enum_report.proofs.CaseLaws.{case_small}
use Rattle.qk_enum_report.proofs.cases.PropertyCases.case.Goals as goal

pub returns-clause-small : goal.returns-clause-small
returns-clause-small c =
    let cases = c.args.self.now in
    let values = get_or (all_cases cases.counts.now.kinds.now cases.depth c.as_slice-binders.result.now) c.args.number [] in
    IfOk-weaker c.case_at.result _ _ (λ case h. subst (λ (d : CaseData). AreSmall d.values) (sym h) (case_small values)) c.case_at.ensures
