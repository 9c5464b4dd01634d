-- What is left of the number is sought among the candidates of what is left, with what is passed put before them.
use Rattle.std.proofs.Common.{◌≡◌, ◌≤◌, ◌+◌, ◌*◌, map, take, drop}
use Rattle.qk_value.specs.Data.{list, datas_of, listed_data}
use Rattle.qk_value.specs.View.{view_type}
use Rattle.qk_eval.specs.Forms.{to_come}
use Rattle.qk_eval.specs.Parts.{items_of, joined}
use Rattle.qk_eval.specs.Sizes.{data_size, datas_size}
use Rattle.qk_shrink.specs.Candidates.{items_in_place, parts_in_place}
use Rattle.qk_shrink.specs.Sought.{sought, map_sought}
use Rattle.qk_shrink.proofs.PartLaws.{after_front}
use Rattle.qk_shrink.proofs.seeking.+seek.Given as goal

abbrev pub invariant-seek_items-items : goal.invariant-seek_items-items
invariant-seek_items-items l = record {
  falls : datas_size (to_come l.rest) + 1 ≤ data_size l.fn.value;
  behind : drop l.at (listed_data (items_of l.fn.value)) ≡ listed_data (to_come l.rest);
  whole : map_sought (after_front l.at (listed_data (items_of l.fn.value))) (sought (items_in_place l.kinds (view_type l.ty) (to_come l.rest)) l.left)
      ≡ map_sought list (sought (items_in_place l.kinds (view_type l.ty) (items_of l.fn.value)) l.fn.k);
}

abbrev pub decreases-seek_items-items : goal.decreases-seek_items-items
decreases-seek_items-items l = datas_size (to_come l.rest)

abbrev pub invariant-seek_parts-loop-i : goal.invariant-seek_parts-loop-i
invariant-seek_parts-loop-i l =
    map_sought (joined (datas_of (take l.i l.parts))) (sought (parts_in_place l.kinds (map view_type (drop l.i l.types)) (datas_of (drop l.i l.parts))) l.left)
    ≡ sought (parts_in_place l.kinds (map view_type l.types) (datas_of l.parts)) l.k

abbrev pub decreases-seek : goal.decreases-seek
decreases-seek l = 3 * data_size l.value.now + 2

abbrev pub decreases-seek_list : goal.decreases-seek_list
decreases-seek_list l = 3 * data_size l.value.now + 1

abbrev pub decreases-seek_items : goal.decreases-seek_items
decreases-seek_items l = 3 * data_size l.value.now

abbrev pub decreases-seek_pair : goal.decreases-seek_pair
decreases-seek_pair l = 3 * (data_size l.a.now + data_size l.b.now) + 3

abbrev pub decreases-seek_made : goal.decreases-seek_made
decreases-seek_made l = 3 * datas_size (datas_of l.parts.now) + 1

abbrev pub decreases-seek_parts : goal.decreases-seek_parts
decreases-seek_parts l = 3 * datas_size (datas_of l.parts.now)
