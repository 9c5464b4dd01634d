-- What is left comes to what the whole does.
use Rattle.std.proofs.Common.{◌≡◌, ◌≤◌, drop, []}
use Rattle.qk_syntax.specs.View.{views}
use Rattle.qk_names.specs.NameTable.{names_in, all_in, Counted}
use Rattle.qk_names.specs.Names.{all_names}
use Rattle.qk_names.proofs.naming.names_of.Given as goal

abbrev pub invariant-loop-tree : goal.invariant-loop-tree
invariant-loop-tree l = record {
  left : all_names [] (views l.trees) ≡ all_names (names_in l.names) (views (drop l.tree-index l.trees));
  counted : Counted l.counts (names_in l.names);
  few : all_in l.counts ≤ l.tree-index;
}
