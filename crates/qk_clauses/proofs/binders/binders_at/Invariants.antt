-- What is left comes to what the whole does.
use Rattle.std.proofs.Common.{◌≡◌, drop, []}
use Rattle.qk_syntax.specs.View.{views}
use Rattle.qk_clauses.specs.Binders.{binders_at}
use Rattle.qk_clauses.specs.BoundView.{Sees}
use Rattle.qk_typing.specs.TablesView.{tables_in}
use Rattle.qk_clauses.proofs.binders.binders_at.Given as goal

abbrev pub invariant-loop-tree : goal.invariant-loop-tree
invariant-loop-tree l = record {
  left : binders_at (tables_in l.tables) [] (views l.trees) ≡ binders_at (tables_in l.tables) l.bound.binders.items (views (drop l.tree-index l.trees));
  sees : Sees l.bound;
}
