-- The lines that are left make the text whole.
use Rattle.std.proofs.Common.{◌≡◌, ◌++◌, drop, map}
use Rattle.qk_value.specs.View.{view_value}
use Rattle.qk_report.specs.Lines.{value_lines}
use Rattle.qk_report.proofs.value_lines.put_value_lines.Given as goal

abbrev pub invariant-loop-index : goal.invariant-loop-index
invariant-loop-index l =
    l.text.items ++ value_lines l.kinds (drop l.index l.binders) (map view_value (drop l.index l.values)) ≡ l.fn.text.items ++ value_lines l.kinds l.binders (map view_value l.values)
