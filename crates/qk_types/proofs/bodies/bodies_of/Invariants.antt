-- What is left comes to what the whole does.
use Rattle.std.proofs.Common.{◌≡◌, ◌≤◌, drop}
use Rattle.qk_syntax.specs.View.{views}
use Rattle.qk_types.specs.Bodies.{bodies_of, bodies_after}
use Rattle.qk_types.specs.DraftView.{draft_in, size_of}
use Rattle.qk_typing.specs.TablesView.{tables_in}
use Rattle.qk_types.proofs.bodies.bodies_of.Given as goal

abbrev pub invariant-loop-tree : goal.invariant-loop-tree
invariant-loop-tree l = record {
  left : bodies_of (tables_in l.tables) (views l.trees) ≡ bodies_after (tables_in l.tables) (draft_in l.tables.headers.kinds l.draft) (views (drop l.tree-index l.trees));
  few : size_of l.draft ≤ l.tree-index;
}
