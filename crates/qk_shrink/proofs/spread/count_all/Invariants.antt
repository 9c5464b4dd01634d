-- The candidates so far and those of the values that are left make all.
use Rattle.std.proofs.Common.{◌≡◌, ◌+◌, ◌^◌, ◌≤◌, length, map, drop}
use Rattle.qk_value.specs.View.{view_value}
use Rattle.qk_eval.specs.Answers.{AreSmall}
use Rattle.qk_shrink.specs.Spreads.{in_turn}
use Rattle.qk_shrink.specs.SpreadsView.{view_way}
use Rattle.qk_shrink.proofs.spread.count_all.Given as goal

abbrev pub invariant-loop-i : goal.invariant-loop-i
invariant-loop-i l = record {
  small : AreSmall (map view_value (drop l.i l.values));
  bounded : l.count ≤ 2 ^ 40;
  whole : l.count + length (in_turn l.kinds (map view_way (drop l.i l.ways)) (map view_value (drop l.i l.values))) ≡ length (in_turn l.kinds (map view_way l.ways) (map view_value l.values));
}
