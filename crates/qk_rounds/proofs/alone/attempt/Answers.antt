use Rattle.std.proofs.Common.{rules, ◌≡◌, ℕ, Some, None, sym, ◌∙◌, ap}
use Rattle.qk_base.specs.Judged.{Judged, DoesNotFail, cause_of}
use Rattle.qk_schedule.specs.Course.{Lawful}
use Rattle.qk_schedule.proofs.SequentialRun.{RestFalls, lawful_falls}
use Rattle.qk_rounds.proofs.Advancing.{halts_here, halts_after, attempt_failed, attempt_passed}
use Rattle.qk_rounds.proofs.CommitStep.{on_err-always}
use Rattle.qk_rounds.proofs.OneAttempt.{GoesOn, next_attempt}
use Rattle.qk_rounds.proofs.alone.attempt.Goals as goal

pub returns-in_err-outcome-clause-err : goal.returns-in_err-outcome-clause-err
returns-in_err-outcome-clause-err g c =
    let course = c.args.course.now in
    on_err-always _ _ (halts_here (g.C.Course.rules course) (g.T.Trial.outcome c.args.trial.now) (g.C.Course.proper course) (g.K.Tally.stands_for c.args.tally.now) c.args.state.now c.args.number)

pub returns-in-Some-clause-ok : goal.returns-in-Some-clause-ok
returns-in-Some-clause-ok g c =
    let course = c.args.course.now in
    let outcome = g.T.Trial.outcome c.args.trial.now in
    let is : cause_of (outcome c.args.number c.size-size.result).verdict ≡ Some c.in-Some.cause
    = ap (λ (o : Judged). cause_of o.verdict) (sym c.in_ok-outcome.ensures) ∙ (sym c.failure.ensures ∙ c.in-Some.is) in
    attempt_failed (g.C.Course.rules course) outcome (g.C.Course.proper course) (g.K.Tally.stands_for c.args.tally.now) c.args.state.now c.args.number c.size-size.result _ c.in-Some.cause
    c.requires.running c.size-size.ensures.size is

pub returns-in_err-add-clause-err : goal.returns-in_err-add-clause-err
returns-in_err-add-clause-err g c =
    let course = c.args.course.now in
    on_err-always _ _ (halts_after (g.C.Course.rules course) (g.T.Trial.outcome c.args.trial.now) (g.C.Course.proper course) (g.K.Tally.stands_for c.args.tally.now) (g.K.Tally.stands_for c.add.new.self) c.args.state.now c.args.number c.in_err-add.ensures.err)

pub returns-clause-ok : goal.returns-clause-ok
returns-clause-ok g c =
    let course = c.args.course.now in
    let run_rules = g.C.Course.rules course in
    let plans = g.C.Course.plans course in
    let takes = g.C.Course.takes course in
    let proper = g.C.Course.proper course in
    let outcome = g.T.Trial.outcome c.args.trial.now in
    let passed : DoesNotFail c.in_ok-outcome.outcome = search rules in
    let met = g.met.C.Course g.world.𝓛 g.world.𝓜 g.world.𝓡 ((λ s x. x), (λ x. x), (λ x. x), λ x. x) in
    let laws : Lawful run_rules plans takes proper (g.C.Course.goes_on course) = met.lawful course in
    let falls : RestFalls run_rules outcome proper = lawful_falls run_rules plans takes proper (g.C.Course.goes_on course) laws outcome c.requires.course_takes in
    let next : GoesOn run_rules outcome proper c.args.state.now c.step.new.state c.args.number c.in_ok-outcome.outcome
    = next_attempt run_rules outcome proper falls _ _ _ _ _ c.requires.proper c.requires.running c.size-size.ensures.size c.in_ok-outcome.ensures passed c.step.ensures in
    attempt_passed run_rules outcome proper (g.K.Tally.stands_for c.args.tally.now) (g.K.Tally.stands_for c.add.new.self) c.args.state.now c.step.new.state c.args.number c.in_ok-outcome.outcome next c.in_ok-add.ensures.ok
