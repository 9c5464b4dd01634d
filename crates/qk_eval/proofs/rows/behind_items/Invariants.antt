use Rattle.std.proofs.Common.{◌≡◌}
use Rattle.qk_value.specs.Measures.{weight}
use Rattle.qk_eval.specs.Rows.{row_from}
use Rattle.qk_eval.proofs.rows.behind_items.Given as goal

abbrev pub invariant-loop-i : goal.invariant-loop-i
invariant-loop-i l = l.left ≡ weight (row_from l.i l.row.value.items.items l.row.value.rest)
