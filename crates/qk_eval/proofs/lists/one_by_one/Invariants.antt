use Rattle.std.proofs.Common.{◌≡◌, ◌<◌, IsTrue, length}
use Rattle.qk_value.specs.Data.{datas_of}
use Rattle.qk_value.specs.Measures.{depths}
use Rattle.qk_eval.specs.Parts.{items_of, is_list, joined}
use Rattle.qk_eval.proofs.lists.one_by_one.Given as goal

abbrev pub invariant-items : goal.invariant-items
invariant-items l = record {
  list : IsTrue (is_list l.all);
  depth : depths (datas_of l.before.items) < 200;
  whole : joined (datas_of l.before.items) (items_of l.all) ≡ joined (datas_of l.fn.items.items) (items_of l.fn.rest);
}

abbrev pub decreases-items : goal.decreases-items
decreases-items l = length l.before.items
