use Rattle.std.proofs.Common.{rules, arith, ◌≡◌, ℕ, ◌+◌, ◌<◌, ◌≤◌, true, false, is_some, Option, None, refl, sym, ◌∙◌, ap, subst}
use Rattle.qk_base.specs.Judged.{Judged}
use Rattle.qk_schedule.specs.declared.finish.Finish.{Finish}
use Rattle.qk_schedule.specs.Course.{TakesAll}
use Rattle.qk_rounds.specs.Advance.{Advances}
use Rattle.qk_rounds.proofs.Advancing.{stands_still, halts_here, halts_further, attempt_on, prepares_next}
use Rattle.qk_rounds.proofs.CommitStep.{on_err-always}
use Rattle.qk_rounds.proofs.Steps.{none_of}
use Rattle.qk_rounds.proofs.alone.stretch.Goals as goal

pub returns-in_err-prepare-clause-err : goal.returns-in_err-prepare-clause-err
returns-in_err-prepare-clause-err g c =
    let course = c.args.course.now in
    on_err-always _ _ (halts_here (g.C.Course.rules course) (g.T.Trial.outcome c.args.trial.now) (g.C.Course.proper course) (g.K.Tally.stands_for c.args.tally.now) c.args.state.now c.args.from)

pub loop-done-init : goal.loop-done-init
loop-done-init g c =
    let course = c.args.course.now in
    record {
      so_far = stands_still (g.C.Course.rules course) (g.T.Trial.outcome c.args.trial.now) (g.C.Course.proper course) (g.K.Tally.stands_for c.args.tally.now) c.args.state.now c.args.from c.requires.proper;
      place = omega arith;
      running = c.requires.running;
      same_outcomes = c.prepare.ensures.same_outcomes;
      prepared = c.in_ok-prepare.ensures.ok;
      taking = λ other. ((λ h. h), λ h. h);
      same_made = refl;
    }

pub attempt-requires-clause-proper : goal.attempt-requires-clause-proper
attempt-requires-clause-proper g c κs within = c.loop-done.invariant.so_far.proper_next refl

pub attempt-requires-clause-among : goal.attempt-requires-clause-among
attempt-requires-clause-among g c κs within =
    let inv = c.loop-done.invariant in
    rw inv.prepared (omega (arith, inv.place), omega (arith, inv.place, c.loop-done-test.true))

pub attempt-requires-clause-course_takes : goal.attempt-requires-clause-course_takes
attempt-requires-clause-course_takes g c κs within =
    subst (λ (o : ℕ → ℕ → Judged). TakesAll (g.C.Course.takes c.args.course.now) o) (sym c.loop-done.invariant.same_outcomes) c.requires.course_takes

pub attempt-requires-clause-tally_takes : goal.attempt-requires-clause-tally_takes
attempt-requires-clause-tally_takes g c κs within =
    let inv = c.loop-done.invariant in
    let outcome = g.T.Trial.outcome c.args.trial.now in
    let takes : TakesAll (g.K.Tally.takes c.loop-done.tally) outcome = λ k size fits passed. (inv.taking (outcome k size)).1 (c.requires.tally_takes k size fits passed) in
    subst (λ (o : ℕ → ℕ → Judged). TakesAll (g.K.Tally.takes c.loop-done.tally) o) (sym inv.same_outcomes) takes

pub returns-in_err-finish-clause-err : goal.returns-in_err-finish-clause-err
returns-in_err-finish-clause-err g c =
    let course = c.args.course.now in
    let inv = c.loop-done.invariant in
    on_err-always _ _ (halts_further (g.C.Course.rules course) (g.T.Trial.outcome c.args.trial.now) _ (g.C.Course.proper course)
    (g.K.Tally.stands_for c.args.tally.now) (g.K.Tally.stands_for c.loop-done.tally) (g.K.Tally.stands_for c.attempt.new.tally) c.args.state.now c.args.from c.loop-done.state c.loop-done.number
    inv.same_outcomes inv.so_far c.in_err-finish.ensures.err)

ended_not_none : (f : Option Finish) → is_some f ≡ true → f ≡ None → ⊥
ended_not_none f some none = not_true (sym (ap is_some none) ∙ some)
  where
    not_true : false ≡ true → ⊥
    not_true h = cc

pub returns-then-is_some : goal.returns-then-is_some
returns-then-is_some g c =
    let course = c.args.course.now in
    let inv = c.loop-done.invariant in
    let some : is_some c.in_ok-finish.finish ≡ true = sym c.is_some.ensures ∙ c.if-is_some.true in
    record {
      ok = attempt_on (g.C.Course.rules course) (g.T.Trial.outcome c.args.trial.now) _ (g.C.Course.proper course)
          (g.K.Tally.stands_for c.args.tally.now) (g.K.Tally.stands_for c.loop-done.tally) (g.K.Tally.stands_for c.attempt.new.tally) c.args.state.now c.args.from c.loop-done.state c.loop-done.number c.attempt.new.state (c.loop-done.number + 1) c.in_ok-finish.finish
          inv.same_outcomes inv.so_far c.in_ok-finish.ensures.ok;
      further = omega (arith, inv.place);
      next = λ none. absurd (ended_not_none c.in_ok-finish.finish some none);
      err = tt;
      same_outcomes = inv.same_outcomes;
      taking = λ other. ((λ h. (inv.taking other).0 ((c.in_ok-finish.ensures.taking other).0 h)), λ h. (c.in_ok-finish.ensures.taking other).1 ((inv.taking other).1 h));
      same_made = c.in_ok-finish.ensures.same_made ∙ inv.same_made;
    }

pub goes_on-requires-clause-proper : goal.goes_on-requires-clause-proper
goes_on-requires-clause-proper g c κs within =
    let none : c.in_ok-finish.finish ≡ None = none_of c.in_ok-finish.finish (sym c.is_some.ensures ∙ c.if-is_some.false) in
    c.in_ok-finish.ensures.ok.proper_next none

pub returns-then-not-goes_on : goal.returns-then-not-goes_on
returns-then-not-goes_on g c =
    let course = c.args.course.now in
    let run_rules = g.C.Course.rules course in
    let proper = g.C.Course.proper course in
    let inv = c.loop-done.invariant in
    let outcome' = g.T.Trial.outcome c.prepare.new.self in
    let mid = g.K.Tally.stands_for c.loop-done.tally in
    let new = g.K.Tally.stands_for c.attempt.new.tally in
    let none : c.in_ok-finish.finish ≡ None = none_of c.in_ok-finish.finish (sym c.is_some.ensures ∙ c.if-is_some.false) in
    let step : Advances run_rules outcome' proper mid new c.loop-done.state c.loop-done.number c.attempt.new.state (c.loop-done.number + 1) None
    = subst (λ (f : Option Finish). Advances run_rules outcome' proper mid new c.loop-done.state c.loop-done.number c.attempt.new.state (c.loop-done.number + 1) f) none c.in_ok-finish.ensures.ok in
    record {
      ok = attempt_on run_rules (g.T.Trial.outcome c.args.trial.now) outcome' proper (g.K.Tally.stands_for c.args.tally.now) mid new
          c.args.state.now c.args.from c.loop-done.state c.loop-done.number c.attempt.new.state (c.loop-done.number + 1) None inv.same_outcomes inv.so_far step;
      further = omega (arith, inv.place);
      next = λ _. prepares_next (g.T.Trial.prepared c.prepare.new.self) c.args.from c.args.count (c.loop-done.number + 1) inv.prepared c.requires.count.0 (omega (arith, inv.place)) (omega (arith, inv.place, c.loop-done-test.true));
      err = tt;
      same_outcomes = inv.same_outcomes;
      taking = λ other. ((λ h. (inv.taking other).0 ((c.in_ok-finish.ensures.taking other).0 h)), λ h. (c.in_ok-finish.ensures.taking other).1 ((inv.taking other).1 h));
      same_made = c.in_ok-finish.ensures.same_made ∙ inv.same_made;
    }

pub loop-done-preserved : goal.loop-done-preserved
loop-done-preserved g c =
    let course = c.args.course.now in
    let run_rules = g.C.Course.rules course in
    let proper = g.C.Course.proper course in
    let inv = c.loop-done.invariant in
    let outcome' = g.T.Trial.outcome c.prepare.new.self in
    let mid = g.K.Tally.stands_for c.loop-done.tally in
    let new = g.K.Tally.stands_for c.attempt.new.tally in
    let none : c.in_ok-finish.finish ≡ None = none_of c.in_ok-finish.finish (sym c.is_some.ensures ∙ c.if-is_some.false) in
    let step : Advances run_rules outcome' proper mid new c.loop-done.state c.loop-done.number c.attempt.new.state (c.loop-done.number + 1) None
    = subst (λ (f : Option Finish). Advances run_rules outcome' proper mid new c.loop-done.state c.loop-done.number c.attempt.new.state (c.loop-done.number + 1) f) none c.in_ok-finish.ensures.ok in
    let goes : c.goes_on.result ≡ true = search rules in
    record {
      so_far = attempt_on run_rules (g.T.Trial.outcome c.args.trial.now) outcome' proper (g.K.Tally.stands_for c.args.tally.now) mid new
          c.args.state.now c.args.from c.loop-done.state c.loop-done.number c.attempt.new.state (c.loop-done.number + 1) None inv.same_outcomes inv.so_far step;
      place = omega (arith, inv.place);
      running = c.goes_on.ensures goes;
      same_outcomes = inv.same_outcomes;
      prepared = inv.prepared;
      taking = λ other. ((λ h. (inv.taking other).0 ((c.in_ok-finish.ensures.taking other).0 h)), λ h. (c.in_ok-finish.ensures.taking other).1 ((inv.taking other).1 h));
      same_made = c.in_ok-finish.ensures.same_made ∙ inv.same_made;
    }

pub returns : goal.returns
returns g c =
    let inv = c.loop-done.invariant in
    record {
      ok = inv.so_far;
      further = omega (arith, inv.place, c.requires.count.0);
      next = λ _. prepares_next (g.T.Trial.prepared c.prepare.new.self) c.args.from c.args.count c.loop-done.number inv.prepared c.requires.count.0 (omega (arith, inv.place)) (omega (arith, inv.place));
      err = tt;
      same_outcomes = inv.same_outcomes;
      taking = inv.taking;
      same_made = inv.same_made;
    }
