-- What was counted and what is left make the whole.
use Rattle.std.proofs.Common.{◌≡◌, ◌≤◌, ◌+◌, drop, map, length}
use Rattle.qk_core.specs.PropertyView.{view_mark}
use Rattle.qk_report.specs.Tables.{wanted_of}
use Rattle.qk_property.proofs.testing.cover_count.Given as goal

abbrev pub invariant-loop-mark : goal.invariant-loop-mark
invariant-loop-mark l = record {
  few : l.count ≤ l.mark-index;
  whole : l.count + length (wanted_of (map view_mark (drop l.mark-index l.marks))) ≡ length (wanted_of (map view_mark l.marks));
}
