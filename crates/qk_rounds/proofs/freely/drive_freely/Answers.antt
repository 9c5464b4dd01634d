use Rattle.std.proofs.Common.{rules, arith, ◌≡◌, ℕ, ◌<◌, Some, None, List, [], refl, sym, ◌∙◌, subst}
use Rattle.qk_base.specs.Judged.{Judged}
use Rattle.qk_schedule.specs.Course.{Lawful, TakesAll}
use Rattle.qk_schedule.specs.Sequential.{Run, sequential}
use Rattle.qk_rounds.specs.Commit.{StandsForPrefix}
use Rattle.qk_rounds.specs.Advance.{Advances, Halts}
use Rattle.qk_rounds.proofs.Advancing.{run_stopped, run_ended}
use Rattle.qk_rounds.proofs.CommitStep.{on_err-always}
use Rattle.qk_rounds.proofs.freely.drive_freely.Goals as goal

pub returns-in_err-state-clause-memory : goal.returns-in_err-state-clause-memory
returns-in_err-state-clause-memory g c =
    let outcome = g.T.Trial.outcome c.args.trial.now in
    let none : StandsForPrefix (g.K.Tally.stands_for c.args.tally.now) (sequential (g.C.Course.rules c.args.course.now) outcome).done
    = record { before = []; after = (sequential (g.C.Course.rules c.args.course.now) outcome).done; prefix = refl; stood_for = c.requires.empty } in
    on_err-always _ _ none

pub loop-stop-init : goal.loop-stop-init
loop-stop-init g c =
    let course = c.args.course.now in
    let run_rules = g.C.Course.rules course in
    let met = g.met.C.Course g.world.𝓛 g.world.𝓜 g.world.𝓡 ((λ s x. x), (λ x. x), (λ x. x), λ x. x) in
    let laws : Lawful run_rules (g.C.Course.plans course) (g.C.Course.takes course) (g.C.Course.proper course) (g.C.Course.goes_on course) = met.lawful course in
    rw c.in_ok-state.ensures (record {
      proper = laws.start_is_proper;
      left = let few = laws.rest_is_bounded run_rules.start laws.start_is_proper in omega (arith, few);
      so_far = ([], c.requires.empty, refl);
      same_outcomes = refl;
      next = record { at_first = λ _. refl; later = λ some. absurd (omega (arith, some, c.requires.fresh)) };
      taking = λ other. ((λ h. h), λ h. h);
      same_made = refl;
    })

pub returns-in-Some : goal.returns-in-Some
returns-in-Some g c =
    let course = c.args.course.now in
    let run_rules = g.C.Course.rules course in
    let outcome = g.T.Trial.outcome c.args.trial.now in
    let inv = c.loop-stop.invariant in
    let stopped : run_rules.stop c.loop-stop.state ≡ Some c.in-Some.stop = sym c.stop.ensures ∙ c.in-Some.is in
    let run = run_stopped run_rules outcome (g.C.Course.proper course) (g.K.Tally.stands_for c.loop-stop.tally) c.loop-stop.state c.loop-stop.number inv.so_far.0 c.in-Some.stop c.ended_by-finish.result
    inv.so_far.1 inv.so_far.2 stopped c.ended_by-finish.ensures in
    record { run = run.0; tally = run.1; memory = tt; same_outcomes = inv.same_outcomes; taking = inv.taking; same_made = inv.same_made }

pub batch-requires-clause-proper : goal.batch-requires-clause-proper
batch-requires-clause-proper g c κs within = c.loop-stop.invariant.proper

pub batch-requires-clause-course_takes : goal.batch-requires-clause-course_takes
batch-requires-clause-course_takes g c κs within =
    subst (λ (o : ℕ → ℕ → Judged). TakesAll (g.C.Course.takes c.args.course.now) o) (sym c.loop-stop.invariant.same_outcomes) c.requires.course_takes

pub batch-requires-clause-tally_takes : goal.batch-requires-clause-tally_takes
batch-requires-clause-tally_takes g c κs within =
    let inv = c.loop-stop.invariant in
    let outcome = g.T.Trial.outcome c.args.trial.now in
    let takes : TakesAll (g.K.Tally.takes c.loop-stop.tally) outcome = λ k size fits passed. (inv.taking (outcome k size)).1 (c.requires.tally_takes k size fits passed) in
    subst (λ (o : ℕ → ℕ → Judged). TakesAll (g.K.Tally.takes c.loop-stop.tally) o) (sym inv.same_outcomes) takes

pub returns-in_err-end-clause-memory : goal.returns-in_err-end-clause-memory
returns-in_err-end-clause-memory g c =
    let run_rules = g.C.Course.rules c.args.course.now in
    let outcome = g.T.Trial.outcome c.args.trial.now in
    let inv = c.loop-stop.invariant in
    let old = g.K.Tally.stands_for c.loop-stop.tally in
    let new = g.K.Tally.stands_for c.batch.new.tally in
    let halts : Halts run_rules outcome old new c.loop-stop.state c.loop-stop.number
    = subst (λ (o : ℕ → ℕ → Judged). Halts run_rules o old new c.loop-stop.state c.loop-stop.number) inv.same_outcomes c.in_err-end.ensures.err in
    on_err-always _ _ (subst (λ (r : Run _). StandsForPrefix new r.done) inv.so_far.2 (halts inv.so_far.0 inv.so_far.1))

pub returns-in-Some-finish : goal.returns-in-Some-finish
returns-in-Some-finish g c =
    let course = c.args.course.now in
    let run_rules = g.C.Course.rules course in
    let proper = g.C.Course.proper course in
    let outcome = g.T.Trial.outcome c.args.trial.now in
    let inv = c.loop-stop.invariant in
    let old = g.K.Tally.stands_for c.loop-stop.tally in
    let new = g.K.Tally.stands_for c.batch.new.tally in
    let end = c.in_ok-end.end in
    let step : Advances run_rules outcome proper old new c.loop-stop.state c.loop-stop.number c.batch.new.state end.next end.finish
    = subst (λ (o : ℕ → ℕ → Judged). Advances run_rules o proper old new c.loop-stop.state c.loop-stop.number c.batch.new.state end.next end.finish) inv.same_outcomes c.in_ok-end.ensures.ok in
    let run = run_ended run_rules outcome proper old new c.loop-stop.state c.loop-stop.number inv.so_far.0 c.batch.new.state end.next end.finish c.in-Some-finish.finish inv.so_far.1 inv.so_far.2 step c.in-Some-finish.is in
    record {
      run = run.0;
      tally = run.1;
      memory = tt;
      same_outcomes = c.in_ok-end.ensures.same_outcomes ∙ inv.same_outcomes;
      taking = λ other. ((λ h. (inv.taking other).0 ((c.in_ok-end.ensures.taking other).0 h)), λ h. (c.in_ok-end.ensures.taking other).1 ((inv.taking other).1 h));
      same_made = c.in_ok-end.ensures.same_made ∙ inv.same_made;
    }

pub loop-stop-smaller : goal.loop-stop-smaller
loop-stop-smaller g c =
    let none : c.in_ok-end.end.finish ≡ None = c.in_default-finish.is in
    let falls = c.in_ok-end.ensures.ok.falls none in
    let further = c.in_ok-end.ensures.further none in
    omega (arith, falls, further)

pub loop-stop-preserved : goal.loop-stop-preserved
loop-stop-preserved g c =
    let course = c.args.course.now in
    let run_rules = g.C.Course.rules course in
    let proper = g.C.Course.proper course in
    let outcome = g.T.Trial.outcome c.args.trial.now in
    let inv = c.loop-stop.invariant in
    let old = g.K.Tally.stands_for c.loop-stop.tally in
    let new = g.K.Tally.stands_for c.batch.new.tally in
    let end = c.in_ok-end.end in
    let none : end.finish ≡ None = c.in_default-finish.is in
    let step : Advances run_rules outcome proper old new c.loop-stop.state c.loop-stop.number c.batch.new.state end.next end.finish
    = subst (λ (o : ℕ → ℕ → Judged). Advances run_rules o proper old new c.loop-stop.state c.loop-stop.number c.batch.new.state end.next end.finish) inv.same_outcomes c.in_ok-end.ensures.ok in
    let on = step.goes_on none inv.so_far.0 inv.so_far.1 in
    record {
      proper = step.proper_next none;
      left = let falls = step.falls none in omega (arith, falls, inv.left);
      so_far = (on.0, on.1, sym on.2 ∙ inv.so_far.2);
      same_outcomes = c.in_ok-end.ensures.same_outcomes ∙ inv.same_outcomes;
      next = c.in_ok-end.ensures.next none;
      taking = λ other. ((λ h. (inv.taking other).0 ((c.in_ok-end.ensures.taking other).0 h)), λ h. (c.in_ok-end.ensures.taking other).1 ((inv.taking other).1 h));
      same_made = c.in_ok-end.ensures.same_made ∙ inv.same_made;
    }
