-- A value takes some of the weight, so that what is left of it falls. The parts so far, with those of what is left of the number, are those of the member.
use Rattle.std.proofs.Common.{◌≡◌, ◌+◌, ◌*◌, ◌≤◌, ◌<◌, ◌++◌, [], length, map, drop, get_or}
use Rattle.qk_value.specs.Data.{listed_data, datas_of}
use Rattle.qk_value.specs.Measures.{weights}
use Rattle.qk_value.specs.Types.{list_type}
use Rattle.qk_value.specs.View.{view_type, view_value}
use Rattle.qk_series.specs.Members.{member, saturated}
use Rattle.qk_series.specs.Series.{below, series, tuples}
use Rattle.qk_series.specs.Small.{items_of}
use Rattle.qk_series.proofs.counts.Counts.+build.Given as goal

abbrev pub decreases-build : goal.decreases-build
decreases-build l = 3 * l.left

abbrev pub decreases-build_items : goal.decreases-build_items
decreases-build_items l = 3 * l.left + 1

abbrev pub decreases-build_list : goal.decreases-build_list
decreases-build_list l = 3 * l.left + 2

abbrev pub decreases-build_made : goal.decreases-build_made
decreases-build_made l = 3 * l.left + 2

abbrev pub decreases-build_pair : goal.decreases-build_pair
decreases-build_pair l = 3 * l.left + 1

abbrev pub decreases-build_parts : goal.decreases-build_parts
decreases-build_parts l = 3 * l.left + 1

abbrev pub invariant-build_items-loop-rest : goal.invariant-build_items-loop-rest
invariant-build_items-loop-rest l = record {
  depth : l.lower ≤ l.depth;
  number : l.rest < saturated (length (series l.self.kinds.now l.lower (list_type (view_type l.item))));
  whole : map view_value l.values.items ++ listed_data (items_of (member l.self.kinds.now l.lower (list_type (view_type l.item)) l.rest)) ≡ listed_data (items_of (member l.self.kinds.now l.depth (list_type (view_type l.item)) l.k));
  light : l.left + weights (datas_of (map view_value l.values.items)) ≡ l.fn.left;
}

abbrev pub decreases-build_items-loop-rest : goal.decreases-build_items-loop-rest
decreases-build_items-loop-rest l = l.lower

abbrev pub invariant-build_parts-loop-i : goal.invariant-build_parts-loop-i
invariant-build_parts-loop-i l = record {
  number : l.rest < saturated (length (tuples (map (below l.self.kinds.now l.depth) (map view_type (drop l.i l.fields)))));
  whole : map view_value l.values.items ++ get_or (tuples (map (below l.self.kinds.now l.depth) (map view_type (drop l.i l.fields)))) l.rest [] ≡ get_or (tuples (map (below l.self.kinds.now l.depth) (map view_type l.fields))) l.k [];
  light : l.left + weights (datas_of (map view_value l.values.items)) ≡ l.fn.left;
}
