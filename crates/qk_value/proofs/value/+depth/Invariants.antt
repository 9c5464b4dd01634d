-- The deepest so far and what is left make the whole, up to the limit.
use Rattle.std.proofs.Common.{◌≡◌, ◌-◌, ◌^◌, ◌<◌, min, max, drop}
use Rattle.qk_value.specs.Measures.{depths}
use Rattle.qk_value.specs.View.{view_values}
use Rattle.qk_value.proofs.value.+depth.Given as goal

abbrev pub invariant-depth_all-loop-item : goal.invariant-depth_all-loop-item
invariant-depth_all-loop-item l = record {
  fits : l.most < 2 ^ 64;
  whole : min (max l.most (depths (view_values (drop l.item-index l.items)))) (2 ^ 64 - 1) ≡ min (depths (view_values l.items)) (2 ^ 64 - 1);
}
