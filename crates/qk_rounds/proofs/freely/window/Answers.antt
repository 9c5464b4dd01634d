use Rattle.std.proofs.Common.{rules, arith, ◌≡◌, ℕ, None, sym, ◌∙◌, subst}
use Rattle.qk_base.specs.Judged.{Judged}
use Rattle.qk_schedule.specs.Course.{Lawful, TakesAll}
use Rattle.qk_schedule.proofs.SequentialRun.{size_is_small}
use Rattle.qk_rounds.proofs.Advancing.{halts_here, window_advances, window_goes_on, window_halts}
use Rattle.qk_rounds.proofs.CommitStep.{on_err-always}
use Rattle.qk_rounds.proofs.Driving.{window_ready}
use Rattle.qk_rounds.proofs.Predicts.{Predicts, lawful_predicts}
use Rattle.qk_rounds.proofs.freely.window.Goals as goal

pub returns-in_err-prepare-clause-err : goal.returns-in_err-prepare-clause-err
returns-in_err-prepare-clause-err g c =
    let course = c.args.course.now in
    on_err-always _ _ (halts_here (g.C.Course.rules course) (g.T.Trial.outcome c.args.trial.now) (g.C.Course.proper course) (g.K.Tally.stands_for c.args.tally.now) c.args.state.now c.args.from)

pub settled_window-requires-clause-takes : goal.settled_window-requires-clause-takes
settled_window-requires-clause-takes g c κs within =
    subst (λ (o : ℕ → ℕ → Judged). TakesAll (g.C.Course.takes c.args.course.now) o) (sym c.prepare.ensures.same_outcomes) c.requires.course_takes

pub returns-in_err-settled-clause-err : goal.returns-in_err-settled-clause-err
returns-in_err-settled-clause-err g c =
    let course = c.args.course.now in
    on_err-always _ _ (halts_here (g.C.Course.rules course) (g.T.Trial.outcome c.args.trial.now) (g.C.Course.proper course) (g.K.Tally.stands_for c.args.tally.now) c.args.state.now c.args.from)

pub commit-requires-clause-ready : goal.commit-requires-clause-ready
commit-requires-clause-ready g c κs within =
    let course = c.args.course.now in
    let run_rules = g.C.Course.rules course in
    let plans = g.C.Course.plans course in
    let proper = g.C.Course.proper course in
    let takes = g.C.Course.takes course in
    let outcome = g.T.Trial.outcome c.args.trial.now in
    let outcome' = g.T.Trial.outcome c.prepare.new.self in
    let met = g.met.C.Course g.world.𝓛 g.world.𝓜 g.world.𝓡 ((λ s x. x), (λ x. x), (λ x. x), λ x. x) in
    let laws : Lawful run_rules plans takes proper (g.C.Course.goes_on course) = met.lawful course in
    let predicts : Predicts run_rules plans outcome proper = lawful_predicts run_rules plans takes proper (g.C.Course.goes_on course) laws outcome c.requires.course_takes in
    let settled = c.in_ok-settled.settled in
    let both : Judged → Type 0 = λ o. takes o × g.K.Tally.takes c.args.tally.now o in
    let taken : TakesAll both outcome = λ k size fits passed. (c.requires.course_takes k size fits passed, c.requires.tally_takes k size fits passed) in
    window_ready run_rules plans outcome outcome' proper both predicts (size_is_small run_rules plans takes proper (g.C.Course.goes_on course) laws) taken
    c.window-slots.result c.args.state.now c.args.from _ settled.slots c.folded-folded.result.now settled.count settled.work c.requires.proper c.requires.running c.prepare.ensures.same_outcomes c.in_ok-settled.ensures c.folded-folded.ensures.slots

pub returns-in_err-end-clause-err : goal.returns-in_err-end-clause-err
returns-in_err-end-clause-err g c =
    let course = c.args.course.now in
    let run_rules = g.C.Course.rules course in
    let plans = g.C.Course.plans course in
    let proper = g.C.Course.proper course in
    let takes = g.C.Course.takes course in
    let outcome = g.T.Trial.outcome c.args.trial.now in
    let outcome' = g.T.Trial.outcome c.prepare.new.self in
    let met = g.met.C.Course g.world.𝓛 g.world.𝓜 g.world.𝓡 ((λ s x. x), (λ x. x), (λ x. x), λ x. x) in
    let laws : Lawful run_rules plans takes proper (g.C.Course.goes_on course) = met.lawful course in
    let predicts : Predicts run_rules plans outcome proper = lawful_predicts run_rules plans takes proper (g.C.Course.goes_on course) laws outcome c.requires.course_takes in
    let settled = c.in_ok-settled.settled in
    on_err-always _ _ (window_halts run_rules plans outcome outcome' proper predicts c.window-slots.result (g.K.Tally.stands_for c.args.tally.now) (g.K.Tally.stands_for c.commit.new.tally)
    c.args.state.now c.args.from _ settled.slots c.folded-folded.result.now settled.count settled.work c.requires.proper c.requires.running c.prepare.ensures.same_outcomes c.in_ok-settled.ensures c.folded-folded.ensures.slots c.in_err-end.ensures.err)

pub returns : goal.returns
returns g c =
    let course = c.args.course.now in
    let run_rules = g.C.Course.rules course in
    let plans = g.C.Course.plans course in
    let proper = g.C.Course.proper course in
    let takes = g.C.Course.takes course in
    let outcome = g.T.Trial.outcome c.args.trial.now in
    let outcome' = g.T.Trial.outcome c.prepare.new.self in
    let met = g.met.C.Course g.world.𝓛 g.world.𝓜 g.world.𝓡 ((λ s x. x), (λ x. x), (λ x. x), λ x. x) in
    let laws : Lawful run_rules plans takes proper (g.C.Course.goes_on course) = met.lawful course in
    let predicts : Predicts run_rules plans outcome proper = lawful_predicts run_rules plans takes proper (g.C.Course.goes_on course) laws outcome c.requires.course_takes in
    let settled = c.in_ok-settled.settled in
    let old = g.K.Tally.stands_for c.args.tally.now in
    let new = g.K.Tally.stands_for c.commit.new.tally in
    let end = c.in_ok-end.end in
    let on = window_goes_on run_rules plans outcome outcome' proper predicts c.window-slots.result old new
    c.args.state.now c.args.from _ settled.slots c.folded-folded.result.now settled.count settled.work c.requires.proper c.requires.running c.prepare.ensures.same_outcomes c.in_ok-settled.ensures c.folded-folded.ensures.slots
    c.commit.new.state end.next end.finish c.in_ok-end.ensures.ok c.window-slots.ensures.0 in
    record {
      ok = window_advances run_rules plans outcome outcome' proper predicts c.window-slots.result old new
          c.args.state.now c.args.from _ settled.slots c.folded-folded.result.now settled.count settled.work c.requires.proper c.requires.running c.prepare.ensures.same_outcomes c.in_ok-settled.ensures c.folded-folded.ensures.slots
          c.commit.new.state end.next end.finish c.in_ok-end.ensures.ok;
      further = λ none. (on none).0;
      next = λ none. (on none).1 (g.T.Trial.prepared c.prepare.new.self) c.in_ok-prepare.ensures.ok;
      err = tt;
      same_outcomes = c.prepare.ensures.same_outcomes;
      taking = c.in_ok-end.ensures.taking;
      same_made = c.in_ok-end.ensures.same_made;
    }
