-- The values so far and what is left make the whole, and what is left is small.
use Rattle.std.proofs.Common.{◌≡◌, ◌≤◌, ◌++◌, drop, map}
use Rattle.qk_value.specs.Measures.{weights, depths}
use Rattle.qk_value.specs.View.{view_value, view_values}
use Rattle.qk_eval.proofs.+of_value.Given as goal

abbrev pub invariant-conversion::of_values-loop-value :
    goal.invariant-conversion::of_values-loop-value
invariant-conversion::of_values-loop-value l = record {
  weights : weights (view_values (drop l.value-index l.values)) ≤ 65536;
  depths : depths (view_values (drop l.value-index l.values)) ≤ 200;
  whole : l.all.items ++ map view_value (drop l.value-index l.values) ≡ map view_value l.values;
}
