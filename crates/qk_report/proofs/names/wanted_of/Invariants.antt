-- What the marks that are left want makes the list whole.
use Rattle.std.proofs.Common.{◌≡◌, ◌++◌, drop, map}
use Rattle.qk_core.specs.PropertyView.{view_mark}
use Rattle.qk_report.specs.Tables.{wanted_of}
use Rattle.qk_report.specs.WantedView.{wanted_behind}
use Rattle.qk_report.proofs.names.wanted_of.Given as goal

abbrev pub invariant-loop-mark : goal.invariant-loop-mark
invariant-loop-mark l = map wanted_behind l.all.items ++ wanted_of (map view_mark (drop l.mark-index l.mark-items)) ≡ wanted_of l.property.marks
