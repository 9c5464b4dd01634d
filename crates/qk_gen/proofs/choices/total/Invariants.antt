use Rattle.std.proofs.Common.{◌≡◌, ◌+◌, ◌≤◌, drop}
use Rattle.qk_core.specs.GenView.{view_weighteds}
use Rattle.qk_gen.specs.Drawing.{total_weight}
use Rattle.qk_gen.proofs.choices.total.Given as goal

abbrev pub invariant-loop-part : goal.invariant-loop-part
invariant-loop-part l = record {
  low : l.sum ≤ 4611686018427387904;
  whole : l.sum + total_weight (view_weighteds (drop l.part-index l.parts)) ≡ total_weight (view_weighteds l.parts);
}
