-- The sum so far and what is left make the whole, up to the limit.
use Rattle.std.proofs.Common.{◌≡◌, ◌+◌, ◌-◌, ◌^◌, ◌<◌, min, drop}
use Rattle.qk_value.specs.Measures.{weights}
use Rattle.qk_value.specs.View.{view_values}
use Rattle.qk_value.proofs.value.+weight.Given as goal

abbrev pub invariant-weight_all-loop-item : goal.invariant-weight_all-loop-item
invariant-weight_all-loop-item l = record {
  fits : l.sum < 2 ^ 64;
  whole : min (l.sum + weights (view_values (drop l.item-index l.items))) (2 ^ 64 - 1) ≡ min (weights (view_values l.items)) (2 ^ 64 - 1);
}
