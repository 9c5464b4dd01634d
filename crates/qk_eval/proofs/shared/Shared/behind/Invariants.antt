-- What is left of the list, without so many items more.
use Rattle.std.proofs.Common.{◌≡◌, IsTrue, drop}
use Rattle.qk_value.specs.Data.{listed_data}
use Rattle.qk_eval.specs.Parts.{is_list, items_of}
use Rattle.qk_eval.proofs.shared.Shared.behind.Given as goal

abbrev pub invariant-loop-left : goal.invariant-loop-left
invariant-loop-left l = record {
  list : IsTrue (is_list l.rest);
  rest : drop l.left (listed_data (items_of l.rest)) ≡ drop l.fn.many (listed_data (items_of l.fn.self));
}

abbrev pub decreases-loop-left : goal.decreases-loop-left
decreases-loop-left l = l.left
