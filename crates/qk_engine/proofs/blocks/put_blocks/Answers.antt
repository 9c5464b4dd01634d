use Rattle.std.proofs.Common.{◌<◌, ◌≤◌, length, subst, ℕ, arith}
use Rattle.qk_engine.specs.Program.{is_passed, is_failed, is_gave_up}
use Rattle.qk_engine.proofs.ProgramLaws.{some_at, blocks_next, blocks_end, counted_next, few_next}
use Rattle.qk_engine.proofs.blocks.put_blocks.Goals as goal
use Rattle.qk_property.specs.Settings.{report_settings}

pub loop-number-preserved : goal.loop-number-preserved
loop-number-preserved g c =
    let core = c.args.core.now in
    let s = report_settings c.args.settings.now in
    let i = c.loop-number.number in
    let at = some_at core.properties i (subst (λ (n : ℕ). i < n) c.properties-number-end.ensures c.loop-number-test.true) in
    let f = c.in_ok-finish.finish in
    let is_finish = c.in_ok-finish.ensures.finish at.0 at.1 in
    let so_far = c.loop-number.invariant in
    let more = c.with-totals.ensures in
    let block = c.in_ok-finish.ensures.text at.0 at.1 in
    record {
      text = blocks_next s core core.properties core.properties i at.0 _ _ _ block.0 at.1 block.1 block.2 so_far.text;
      passed = counted_next s core is_passed core.properties i at.0 f _ _ _ at.1 is_finish more.passed so_far.passed;
      failed = counted_next s core is_failed core.properties i at.0 f _ _ _ at.1 is_finish more.failed so_far.failed;
      gave_up = counted_next s core is_gave_up core.properties i at.0 f _ _ _ at.1 is_finish more.gave_up so_far.gave_up;
      few_passed = few_next (is_passed f) _ _ i more.passed so_far.few_passed;
      few_failed = few_next (is_failed f) _ _ i more.failed so_far.few_failed;
      few_gave_up = few_next (is_gave_up f) _ _ i more.gave_up so_far.few_gave_up;
    }

pub returns-clause-text : goal.returns-clause-text
returns-clause-text g c =
    let core = c.args.core.now in
    let past : length core.properties ≤ c.loop-number.number = omega (arith, c.loop-number-test.false, c.properties-number-end.ensures) in
    blocks_end (report_settings c.args.settings.now) core core.properties c.loop-number.number c.loop-number.text.items c.args.text.now.items past c.loop-number.invariant.text
