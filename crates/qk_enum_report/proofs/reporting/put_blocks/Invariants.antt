-- The blocks that are left make the text whole, and the properties that are left the counts.
use Rattle.std.proofs.Common.{◌≡◌, ◌≤◌, ◌+◌, ◌++◌, drop, not, count_by}
use Rattle.qk_enum_report.specs.Blocks.{fails}
use Rattle.qk_enum_report.specs.Reach.{reach_of}
use Rattle.qk_enum_report.specs.Report.{blocks_of, failures, passes}
use Rattle.qk_enum_report.proofs.reporting.put_blocks.Given as goal

abbrev pub invariant-loop-number : goal.invariant-loop-number
invariant-loop-number g l =
    let left = drop l.number l.core.properties in
    let r = reach_of l.settings in
    record {
      text : l.text.items ++ blocks_of r l.core left ≡ l.fn.text.items ++ blocks_of r l.core l.core.properties;
      passed : l.totals.passed + count_by (λ p. not (fails r l.core p)) left ≡ passes r l.core l.core.properties;
      failed : l.totals.failed + count_by (fails r l.core) left ≡ failures r l.core l.core.properties;
      few_passed : l.totals.passed ≤ l.number;
      few_failed : l.totals.failed ≤ l.number;
    }
