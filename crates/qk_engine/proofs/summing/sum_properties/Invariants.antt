-- What was counted and what is left make the whole.
use Rattle.std.proofs.Common.{◌≡◌, ◌≤◌, ◌+◌, ◌*◌, drop, count_by}
use Rattle.qk_engine.specs.Generated.{all_attempts, attempts_in}
use Rattle.qk_engine.specs.Program.{finishes, how_many, is_passed, is_failed, is_gave_up}
use Rattle.qk_engine.proofs.summing.sum_properties.Given as goal
use Rattle.qk_property.specs.Settings.{report_settings}

abbrev pub invariant-loop-number : goal.invariant-loop-number
invariant-loop-number g l =
    let left = drop l.number l.core.properties in
    let s = report_settings l.settings in
    record {
      attempts : l.attempts + attempts_in s l.core left ≡ all_attempts s l.core;
      few : l.attempts ≤ l.number * 101000001;
      passed : l.totals.passed + count_by is_passed (finishes s l.core left) ≡ how_many is_passed s l.core;
      failed : l.totals.failed + count_by is_failed (finishes s l.core left) ≡ how_many is_failed s l.core;
      gave_up : l.totals.gave_up + count_by is_gave_up (finishes s l.core left) ≡ how_many is_gave_up s l.core;
      few_passed : l.totals.passed ≤ l.number;
      few_failed : l.totals.failed ≤ l.number;
      few_gave_up : l.totals.gave_up ≤ l.number;
    }
