use Rattle.std.proofs.Common.{not, ap}
use Rattle.qk_enum_report.specs.Blocks.{fails}
use Rattle.qk_enum_report.specs.Reach.{reach_of}
use Rattle.qk_enum_report.proofs.PropertiesLeft.{blocks_next, counted_next, few_next}
use Rattle.qk_enum_report.proofs.reporting.put_blocks.Goals as goal

pub loop-number-preserved : goal.loop-number-preserved
loop-number-preserved g c =
    let core = c.args.core.now in
    let r = reach_of c.args.settings.now in
    let i = c.loop-number.number in
    let b = c.in_ok-fails.fails in
    let p = c.property-property.result.now in
    let found = c.property-property.ensures in
    let so_far = c.loop-number.invariant in
    let more = c.with-totals.ensures in
    record {
      text = blocks_next r core core.properties i p found _ _ _ c.in_ok-fails.ensures.text so_far.text;
      passed = counted_next r core core.properties i p found (λ q. not (fails r core q)) (not b) _ _ _ (ap not c.in_ok-fails.ensures.failed) more.passed so_far.passed;
      failed = counted_next r core core.properties i p found (fails r core) b _ _ _ c.in_ok-fails.ensures.failed more.failed so_far.failed;
      few_passed = few_next (not b) _ _ i more.passed so_far.few_passed;
      few_failed = few_next b _ _ i more.failed so_far.few_failed;
    }
