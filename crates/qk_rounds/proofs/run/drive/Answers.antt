use Rattle.std.proofs.Common.{rules, ◌≡◌, ℕ, Some, None, [], refl, sym, ◌∙◌, subst, arith}
use Rattle.qk_base.specs.Judged.{Judged}
use Rattle.qk_schedule.specs.Course.{Lawful, TakesAll}
use Rattle.qk_schedule.specs.Sequential.{sequential}
use Rattle.qk_schedule.proofs.SequentialRun.{size_is_small}
use Rattle.qk_rounds.specs.Commit.{StandsForPrefix}
use Rattle.qk_rounds.proofs.CommitStep.{on_err-always}
use Rattle.qk_rounds.proofs.FewAttempts.{attempts_are_few, both_ways}
use Rattle.qk_rounds.proofs.Predicts.{Predicts, lawful_predicts}
use Rattle.qk_rounds.proofs.Driving.{Ends, Stepped, reached_start, prefix_reached, prefix_committed, ends_stopped, stepped_by, window_ready}
use Rattle.qk_rounds.proofs.run.drive.Goals as goal

pub returns-in_err-state-clause-memory : goal.returns-in_err-state-clause-memory
returns-in_err-state-clause-memory g c =
    let course = c.args.course.now in
    let run_rules = g.C.Course.rules course in
    let plans = g.C.Course.plans course in
    let proper = g.C.Course.proper course in
    let takes = g.C.Course.takes course in
    let outcome = g.T.Trial.outcome c.args.trial.now in
    let none : StandsForPrefix (g.K.Tally.stands_for c.args.tally.now) (sequential run_rules outcome).done
    = record { before = []; after = (sequential run_rules outcome).done; prefix = refl; stood_for = c.requires.empty } in
    on_err-always _ _ none

pub loop-stop-init : goal.loop-stop-init
loop-stop-init g c =
    let course = c.args.course.now in
    let run_rules = g.C.Course.rules course in
    let plans = g.C.Course.plans course in
    let proper = g.C.Course.proper course in
    let takes = g.C.Course.takes course in
    let outcome = g.T.Trial.outcome c.args.trial.now in
    let met = g.met.C.Course g.world.𝓛 g.world.𝓜 g.world.𝓡 ((λ s x. x), (λ x. x), (λ x. x), λ x. x) in
    let laws : Lawful run_rules plans takes proper (g.C.Course.goes_on course) = met.lawful course in
    rw c.in_ok-state.ensures (record {
      reached = reached_start run_rules plans outcome proper c.args.window (g.K.Tally.stands_for c.args.tally.now) laws.start_is_proper (laws.rest_is_bounded run_rules.start laws.start_is_proper) c.requires.empty;
      same_outcomes = refl;
      next = record { at_first = λ _. refl; later = λ some. absurd (omega (arith, some, c.requires.fresh)) };
      takes = c.requires.tally_takes;
      taking = λ other. (λ t. t, λ t. t);
      same_made = refl;
    })

pub stop-requires : goal.stop-requires
stop-requires g c = c.loop-stop.invariant.reached.ok

pub returns-in-Some : goal.returns-in-Some
returns-in-Some g c =
    let course = c.args.course.now in
    let run_rules = g.C.Course.rules course in
    let plans = g.C.Course.plans course in
    let proper = g.C.Course.proper course in
    let takes = g.C.Course.takes course in
    let outcome = g.T.Trial.outcome c.args.trial.now in
    let inv = c.loop-stop.invariant in
    let old = g.K.Tally.stands_for c.loop-stop.tally in
    let state = c.loop-stop.state in
    let number = c.loop-stop.number in
    let before = c.loop-stop.work in
    let stopped : run_rules.stop state ≡ Some c.in-Some.stop = sym c.stop.ensures ∙ c.in-Some.is in
    let ends : Ends run_rules plans outcome c.args.window old state c.ended_by-finish.result before
    = ends_stopped run_rules plans outcome proper c.args.window old state number before c.in-Some.stop c.ended_by-finish.result inv.reached stopped c.ended_by-finish.ensures in
    let met = g.met.C.Course g.world.𝓛 g.world.𝓜 g.world.𝓡 ((λ s x. x), (λ x. x), (λ x. x), λ x. x) in
    let laws : Lawful run_rules plans takes proper (g.C.Course.goes_on course) = met.lawful course in
    record {
      run = ends.run;
      tally = ends.tally;
      work = ends.work_is;
      bounds = (ends.rounds, ends.trials);
      few = attempts_are_few run_rules plans takes proper (g.C.Course.goes_on course) laws outcome c.requires.course_takes;
      memory = tt;
      same_outcomes = inv.same_outcomes;
      taking = inv.taking;
      same_made = inv.same_made;
    }

pub returns-in_err-prepare-clause-memory : goal.returns-in_err-prepare-clause-memory
returns-in_err-prepare-clause-memory g c =
    let course = c.args.course.now in
    let run_rules = g.C.Course.rules course in
    let plans = g.C.Course.plans course in
    let proper = g.C.Course.proper course in
    let takes = g.C.Course.takes course in
    let outcome = g.T.Trial.outcome c.args.trial.now in
    let inv = c.loop-stop.invariant in
    let old = g.K.Tally.stands_for c.loop-stop.tally in
    let state = c.loop-stop.state in
    let number = c.loop-stop.number in
    let before = c.loop-stop.work in
    on_err-always _ _ (prefix_reached run_rules plans outcome proper c.args.window old state number before inv.reached)

pub settled_window-requires-clause-early : goal.settled_window-requires-clause-early
settled_window-requires-clause-early g c κs within = let left = c.loop-stop.invariant.reached.left in omega (arith, left)

pub settled_window-requires-clause-proper : goal.settled_window-requires-clause-proper
settled_window-requires-clause-proper g c κs within = c.loop-stop.invariant.reached.ok

pub settled_window-requires-clause-prepared : goal.settled_window-requires-clause-prepared
settled_window-requires-clause-prepared g c κs within = c.in_ok-prepare.ensures.ok

pub settled_window-requires-clause-takes : goal.settled_window-requires-clause-takes
settled_window-requires-clause-takes g c κs within =
    let same = c.prepare.ensures.same_outcomes ∙ c.loop-stop.invariant.same_outcomes in
    subst (λ (o : ℕ → ℕ → Judged). TakesAll (g.C.Course.takes c.args.course.now) o) (sym same) c.requires.course_takes

pub settled_window-requires-clause-little : goal.settled_window-requires-clause-little
settled_window-requires-clause-little g c κs within =
    let reached = c.loop-stop.invariant.reached in
    let left = reached.left in
    let windows = reached.windows in
    let rounds = reached.few_rounds in
    let trials = reached.few_trials in
    (omega (arith, left, windows), omega (arith, left, windows, rounds), omega (arith, left, windows, trials))

pub returns-in_err-settled-clause-memory : goal.returns-in_err-settled-clause-memory
returns-in_err-settled-clause-memory g c =
    let course = c.args.course.now in
    let run_rules = g.C.Course.rules course in
    let plans = g.C.Course.plans course in
    let proper = g.C.Course.proper course in
    let takes = g.C.Course.takes course in
    let outcome = g.T.Trial.outcome c.args.trial.now in
    let inv = c.loop-stop.invariant in
    let old = g.K.Tally.stands_for c.loop-stop.tally in
    let state = c.loop-stop.state in
    let number = c.loop-stop.number in
    let before = c.loop-stop.work in
    on_err-always _ _ (prefix_reached run_rules plans outcome proper c.args.window old state number before inv.reached)

pub commit-requires-clause-early : goal.commit-requires-clause-early
commit-requires-clause-early g c κs within = let left = c.loop-stop.invariant.reached.left in omega (arith, left)

pub commit-requires-clause-ready : goal.commit-requires-clause-ready
commit-requires-clause-ready g c κs within =
    let course = c.args.course.now in
    let run_rules = g.C.Course.rules course in
    let plans = g.C.Course.plans course in
    let proper = g.C.Course.proper course in
    let takes = g.C.Course.takes course in
    let outcome = g.T.Trial.outcome c.args.trial.now in
    let met = g.met.C.Course g.world.𝓛 g.world.𝓜 g.world.𝓡 ((λ s x. x), (λ x. x), (λ x. x), λ x. x) in
    let laws : Lawful run_rules plans takes proper (g.C.Course.goes_on course) = met.lawful course in
    let predicts : Predicts run_rules plans outcome proper
    = lawful_predicts run_rules plans takes proper (g.C.Course.goes_on course) laws outcome c.requires.course_takes in
    let inv = c.loop-stop.invariant in
    let old = g.K.Tally.stands_for c.loop-stop.tally in
    let state = c.loop-stop.state in
    let number = c.loop-stop.number in
    let before = c.loop-stop.work in
    let running : run_rules.stop state ≡ None = search rules in
    let outcome' = g.T.Trial.outcome c.prepare.new.self in
    let same : outcome' ≡ outcome = c.prepare.ensures.same_outcomes ∙ inv.same_outcomes in
    let settled = c.in_ok-settled.settled in
    let both : Judged → Type 0 = λ o. takes o × g.K.Tally.takes c.loop-stop.tally o in
    let taken : TakesAll both outcome = λ k size fits passed. (c.requires.course_takes k size fits passed, inv.takes k size fits passed) in
    window_ready run_rules plans outcome outcome' proper both predicts (size_is_small run_rules plans takes proper (g.C.Course.goes_on course) laws) taken
    c.args.window state number before settled.slots c.folded.result.now settled.count settled.work inv.reached.ok running same c.in_ok-settled.ensures c.folded.ensures.slots

pub returns-in_err-end-clause-memory : goal.returns-in_err-end-clause-memory
returns-in_err-end-clause-memory g c =
    let course = c.args.course.now in
    let run_rules = g.C.Course.rules course in
    let plans = g.C.Course.plans course in
    let proper = g.C.Course.proper course in
    let takes = g.C.Course.takes course in
    let outcome = g.T.Trial.outcome c.args.trial.now in
    let met = g.met.C.Course g.world.𝓛 g.world.𝓜 g.world.𝓡 ((λ s x. x), (λ x. x), (λ x. x), λ x. x) in
    let laws : Lawful run_rules plans takes proper (g.C.Course.goes_on course) = met.lawful course in
    let predicts : Predicts run_rules plans outcome proper
    = lawful_predicts run_rules plans takes proper (g.C.Course.goes_on course) laws outcome c.requires.course_takes in
    let inv = c.loop-stop.invariant in
    let old = g.K.Tally.stands_for c.loop-stop.tally in
    let state = c.loop-stop.state in
    let number = c.loop-stop.number in
    let before = c.loop-stop.work in
    let running : run_rules.stop state ≡ None = search rules in
    let outcome' = g.T.Trial.outcome c.prepare.new.self in
    let same : outcome' ≡ outcome = c.prepare.ensures.same_outcomes ∙ inv.same_outcomes in
    let settled = c.in_ok-settled.settled in
    on_err-always _ _ (prefix_committed run_rules plans outcome outcome' proper predicts c.args.window old (g.K.Tally.stands_for c.commit.new.tally) state number before settled.slots c.folded.result.now settled.count settled.work
    inv.reached running same c.in_ok-settled.ensures c.folded.ensures.slots c.in_err-end.ensures.err)

pub returns-in-Some-finish : goal.returns-in-Some-finish
returns-in-Some-finish g c =
    let course = c.args.course.now in
    let run_rules = g.C.Course.rules course in
    let plans = g.C.Course.plans course in
    let proper = g.C.Course.proper course in
    let takes = g.C.Course.takes course in
    let outcome = g.T.Trial.outcome c.args.trial.now in
    let met = g.met.C.Course g.world.𝓛 g.world.𝓜 g.world.𝓡 ((λ s x. x), (λ x. x), (λ x. x), λ x. x) in
    let laws : Lawful run_rules plans takes proper (g.C.Course.goes_on course) = met.lawful course in
    let predicts : Predicts run_rules plans outcome proper
    = lawful_predicts run_rules plans takes proper (g.C.Course.goes_on course) laws outcome c.requires.course_takes in
    let inv = c.loop-stop.invariant in
    let old = g.K.Tally.stands_for c.loop-stop.tally in
    let state = c.loop-stop.state in
    let number = c.loop-stop.number in
    let before = c.loop-stop.work in
    let running : run_rules.stop state ≡ None = search rules in
    let outcome' = g.T.Trial.outcome c.prepare.new.self in
    let same : outcome' ≡ outcome = c.prepare.ensures.same_outcomes ∙ inv.same_outcomes in
    let settled = c.in_ok-settled.settled in
    let end = c.in_ok-end.end in
    let step : Stepped run_rules plans outcome proper c.args.window (g.K.Tally.stands_for c.commit.new.tally) state number c.commit.new.state end.next end.finish settled.work
    = stepped_by run_rules plans outcome outcome' proper predicts c.args.window old (g.K.Tally.stands_for c.commit.new.tally) state number before settled.slots c.folded.result.now settled.count settled.work
    c.commit.new.state end.next end.finish c.requires.window inv.reached running same c.in_ok-settled.ensures c.folded.ensures.slots c.in_ok-end.ensures.ok in
    let ends : Ends run_rules plans outcome c.args.window (g.K.Tally.stands_for c.commit.new.tally) c.commit.new.state c.in-Some-finish.finish settled.work
    = step.ends c.in-Some-finish.finish c.in-Some-finish.is in
    record {
      run = ends.run;
      tally = ends.tally;
      work = ends.work_is;
      bounds = (ends.rounds, ends.trials);
      few = attempts_are_few run_rules plans takes proper (g.C.Course.goes_on course) laws outcome c.requires.course_takes;
      memory = tt;
      same_outcomes = same;
      taking = λ other. both_ways _ _ _ (c.in_ok-end.ensures.taking other) (inv.taking other);
      same_made = c.in_ok-end.ensures.same_made ∙ inv.same_made;
    }

pub loop-stop-smaller : goal.loop-stop-smaller
loop-stop-smaller g c =
    let course = c.args.course.now in
    let run_rules = g.C.Course.rules course in
    let plans = g.C.Course.plans course in
    let proper = g.C.Course.proper course in
    let takes = g.C.Course.takes course in
    let outcome = g.T.Trial.outcome c.args.trial.now in
    let met = g.met.C.Course g.world.𝓛 g.world.𝓜 g.world.𝓡 ((λ s x. x), (λ x. x), (λ x. x), λ x. x) in
    let laws : Lawful run_rules plans takes proper (g.C.Course.goes_on course) = met.lawful course in
    let predicts : Predicts run_rules plans outcome proper
    = lawful_predicts run_rules plans takes proper (g.C.Course.goes_on course) laws outcome c.requires.course_takes in
    let inv = c.loop-stop.invariant in
    let old = g.K.Tally.stands_for c.loop-stop.tally in
    let state = c.loop-stop.state in
    let number = c.loop-stop.number in
    let before = c.loop-stop.work in
    let running : run_rules.stop state ≡ None = search rules in
    let outcome' = g.T.Trial.outcome c.prepare.new.self in
    let same : outcome' ≡ outcome = c.prepare.ensures.same_outcomes ∙ inv.same_outcomes in
    let settled = c.in_ok-settled.settled in
    let end = c.in_ok-end.end in
    let step : Stepped run_rules plans outcome proper c.args.window (g.K.Tally.stands_for c.commit.new.tally) state number c.commit.new.state end.next end.finish settled.work
    = stepped_by run_rules plans outcome outcome' proper predicts c.args.window old (g.K.Tally.stands_for c.commit.new.tally) state number before settled.slots c.folded.result.now settled.count settled.work
    c.commit.new.state end.next end.finish c.requires.window inv.reached running same c.in_ok-settled.ensures c.folded.ensures.slots c.in_ok-end.ensures.ok in
    step.falls c.in_default-finish.is

pub loop-stop-preserved : goal.loop-stop-preserved
loop-stop-preserved g c =
    let course = c.args.course.now in
    let run_rules = g.C.Course.rules course in
    let plans = g.C.Course.plans course in
    let proper = g.C.Course.proper course in
    let takes = g.C.Course.takes course in
    let outcome = g.T.Trial.outcome c.args.trial.now in
    let met = g.met.C.Course g.world.𝓛 g.world.𝓜 g.world.𝓡 ((λ s x. x), (λ x. x), (λ x. x), λ x. x) in
    let laws : Lawful run_rules plans takes proper (g.C.Course.goes_on course) = met.lawful course in
    let predicts : Predicts run_rules plans outcome proper
    = lawful_predicts run_rules plans takes proper (g.C.Course.goes_on course) laws outcome c.requires.course_takes in
    let inv = c.loop-stop.invariant in
    let old = g.K.Tally.stands_for c.loop-stop.tally in
    let state = c.loop-stop.state in
    let number = c.loop-stop.number in
    let before = c.loop-stop.work in
    let running : run_rules.stop state ≡ None = search rules in
    let outcome' = g.T.Trial.outcome c.prepare.new.self in
    let same : outcome' ≡ outcome = c.prepare.ensures.same_outcomes ∙ inv.same_outcomes in
    let settled = c.in_ok-settled.settled in
    let end = c.in_ok-end.end in
    let step : Stepped run_rules plans outcome proper c.args.window (g.K.Tally.stands_for c.commit.new.tally) state number c.commit.new.state end.next end.finish settled.work
    = stepped_by run_rules plans outcome outcome' proper predicts c.args.window old (g.K.Tally.stands_for c.commit.new.tally) state number before settled.slots c.folded.result.now settled.count settled.work
    c.commit.new.state end.next end.finish c.requires.window inv.reached running same c.in_ok-settled.ensures c.folded.ensures.slots c.in_ok-end.ensures.ok in
    let none : end.finish ≡ None = c.in_default-finish.is in
    record {
      reached = step.goes_on none;
      same_outcomes = same;
      next = step.prepares none (g.T.Trial.prepared c.prepare.new.self) c.in_ok-prepare.ensures.ok;
      takes = λ k size fits passed. (c.in_ok-end.ensures.taking (outcome k size)).1 (inv.takes k size fits passed);
      taking = λ other. both_ways _ _ _ (c.in_ok-end.ensures.taking other) (inv.taking other);
      same_made = c.in_ok-end.ensures.same_made ∙ inv.same_made;
    }
