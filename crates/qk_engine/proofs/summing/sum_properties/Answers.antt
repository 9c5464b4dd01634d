use Rattle.std.proofs.Common.{◌<◌, subst, ℕ, refl, arith}
use Rattle.qk_engine.specs.Program.{is_passed, is_failed, is_gave_up}
use Rattle.qk_engine.proofs.ProgramLaws.{some_at, attempts_next, counted_next, few_next}
use Rattle.qk_engine.proofs.summing.sum_properties.Goals as goal
use Rattle.qk_property.specs.Settings.{report_settings}

pub loop-number-preserved : goal.loop-number-preserved
loop-number-preserved g c =
    let core = c.args.core.now in
    let s = report_settings c.args.settings.now in
    let i = c.loop-number.number in
    let at = some_at core.properties i (subst (λ (n : ℕ). i < n) c.properties-number-end.ensures c.loop-number-test.true) in
    let f = c.in_ok-counted.counted.finish in
    let is_finish = c.in_ok-counted.ensures.finish at.0 at.1 in
    let so_far = c.loop-number.invariant in
    let more = c.with-totals.ensures in
    let few = c.in_ok-counted.ensures.few in
    let before = so_far.few in
    record {
      attempts = attempts_next s core core.properties i at.0 c.in_ok-counted.counted.attempts _ _ _ at.1 (c.in_ok-counted.ensures.attempts at.0 at.1) refl so_far.attempts;
      few = omega (arith, few, before);
      passed = counted_next s core is_passed core.properties i at.0 f _ _ _ at.1 is_finish more.passed so_far.passed;
      failed = counted_next s core is_failed core.properties i at.0 f _ _ _ at.1 is_finish more.failed so_far.failed;
      gave_up = counted_next s core is_gave_up core.properties i at.0 f _ _ _ at.1 is_finish more.gave_up so_far.gave_up;
      few_passed = few_next (is_passed f) _ _ i more.passed so_far.few_passed;
      few_failed = few_next (is_failed f) _ _ i more.failed so_far.few_failed;
      few_gave_up = few_next (is_gave_up f) _ _ i more.gave_up so_far.few_gave_up;
    }
