-- The candidates so far and those of what is left make all, and no more than their weights allow.
use Rattle.std.proofs.Common.{◌≡◌, ◌+◌, ◌*◌, ◌≤◌, length, map, drop}
use Rattle.qk_value.specs.Measures.{weights}
use Rattle.qk_value.specs.View.{view_type, view_values}
use Rattle.qk_shrink.specs.Candidates.{items_in_place, parts_in_place}
use Rattle.qk_shrink.proofs.counting.+count.Given as goal

abbrev pub invariant-count_items-loop-item : goal.invariant-count_items-loop-item
invariant-count_items-loop-item l = record {
  light : weights (view_values (drop l.item-index l.items)) ≤ 65536;
  whole : l.sum + length (items_in_place l.kinds (view_type l.ty) (view_values (drop l.item-index l.items))) ≡ length (items_in_place l.kinds (view_type l.ty) (view_values l.items));
  bounded : l.sum + 20 * l.item-index + 100 * weights (view_values (drop l.item-index l.items)) ≤ 100 * weights (view_values l.items);
}

abbrev pub invariant-count_parts-loop-i : goal.invariant-count_parts-loop-i
invariant-count_parts-loop-i l = record {
  light : weights (view_values (drop l.i l.parts)) ≤ 65536;
  whole : l.sum + length (parts_in_place l.kinds (map view_type (drop l.i l.types)) (view_values (drop l.i l.parts))) ≡ length (parts_in_place l.kinds (map view_type l.types) (view_values l.parts));
  bounded : l.sum + 20 * l.i + 100 * weights (view_values (drop l.i l.parts)) ≤ 100 * weights (view_values l.parts);
}
