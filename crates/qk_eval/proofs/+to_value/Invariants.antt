-- The values so far and what is left make the whole.
use Rattle.std.proofs.Common.{◌≡◌, ◌≤◌, ◌++◌, drop, map}
use Rattle.qk_value.specs.Data.{datas_of}
use Rattle.qk_value.specs.View.{view_value, view_values}
use Rattle.qk_eval.specs.Forms.{to_come}
use Rattle.qk_eval.specs.Parts.{joined}
use Rattle.qk_eval.specs.Sizes.{data_size, datas_size}
use Rattle.qk_eval.proofs.+to_value.Given as goal

abbrev pub invariant-conversion::items_to_values-items :
    goal.invariant-conversion::items_to_values-items
invariant-conversion::items_to_values-items l = record {
  falls : datas_size (to_come l.rest) ≤ datas_size (to_come l.fn.items);
  whole : joined (view_values l.all.items) (to_come l.rest) ≡ to_come l.fn.items;
}

abbrev pub decreases-conversion::items_to_values-items :
    goal.decreases-conversion::items_to_values-items
decreases-conversion::items_to_values-items l = datas_size (to_come l.rest)

abbrev pub invariant-conversion::to_values-loop-part :
    goal.invariant-conversion::to_values-loop-part
invariant-conversion::to_values-loop-part l = map view_value l.all.items ++ drop l.part-index l.parts ≡ l.parts

abbrev pub decreases-shared::Shared::to_value : goal.decreases-shared::Shared::to_value
decreases-shared::Shared::to_value l = data_size l.self.now

abbrev pub decreases-conversion::items_to_values : goal.decreases-conversion::items_to_values
decreases-conversion::items_to_values l = datas_size (to_come l.items)

abbrev pub decreases-conversion::to_values : goal.decreases-conversion::to_values
decreases-conversion::to_values l = datas_size (datas_of l.parts.now)
