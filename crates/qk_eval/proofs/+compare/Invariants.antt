-- What is left decides as the whole does.
use Rattle.std.proofs.Common.{◌≡◌, ◌≤◌, drop}
use Rattle.qk_value.specs.Data.{datas_of}
use Rattle.qk_value.specs.Order.{compare_all}
use Rattle.qk_eval.specs.Forms.{to_come}
use Rattle.qk_eval.specs.Sizes.{data_size, datas_size}
use Rattle.qk_eval.proofs.+compare.Given as goal

abbrev pub invariant-order::compare_items-items : goal.invariant-order::compare_items-items
invariant-order::compare_items-items l = record {
  falls : datas_size (to_come l.xs) ≤ datas_size (to_come l.fn.items);
  whole : compare_all (to_come l.xs) (to_come l.ys) ≡ compare_all (to_come l.fn.items) (to_come l.fn.others);
}

abbrev pub decreases-order::compare_items-items : goal.decreases-order::compare_items-items
decreases-order::compare_items-items l = datas_size (to_come l.xs)

abbrev pub invariant-order::compare_all-loop-i : goal.invariant-order::compare_all-loop-i
invariant-order::compare_all-loop-i l = compare_all (datas_of (drop l.i l.xs)) (datas_of (drop l.i l.ys)) ≡ compare_all (datas_of l.xs) (datas_of l.ys)

abbrev pub decreases-shared::Shared::compare : goal.decreases-shared::Shared::compare
decreases-shared::Shared::compare l = data_size l.self.now

abbrev pub decreases-order::compare_items : goal.decreases-order::compare_items
decreases-order::compare_items l = datas_size (to_come l.items)

abbrev pub decreases-order::compare_all : goal.decreases-order::compare_all
decreases-order::compare_all l = datas_size (datas_of l.xs.now)
