-- The names of the marks that are left make the names whole.
use Rattle.std.proofs.Common.{◌≡◌, ◌++◌, drop, map}
use Rattle.qk_core.specs.PropertyView.{view_mark}
use Rattle.qk_report.specs.Tables.{class_names}
use Rattle.qk_report.proofs.names.class_names.Given as goal

abbrev pub invariant-loop-mark : goal.invariant-loop-mark
invariant-loop-mark l = map (λ name. name.now) l.names.items ++ class_names (map view_mark (drop l.mark-index l.mark-items)) ≡ class_names l.property.marks
