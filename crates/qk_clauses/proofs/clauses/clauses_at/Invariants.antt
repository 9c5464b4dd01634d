-- What is left comes to what the whole does.
use Rattle.std.proofs.Common.{◌≡◌, drop}
use Rattle.qk_syntax.specs.View.{views}
use Rattle.qk_clauses.specs.BoundView.{KeepsBound}
use Rattle.qk_clauses.specs.Clauses.{clauses_at, no_clauses}
use Rattle.qk_clauses.specs.ClausesView.{clauses_in}
use Rattle.qk_typing.specs.TablesView.{tables_in}
use Rattle.qk_clauses.proofs.clauses.clauses_at.Given as goal

abbrev pub invariant-loop-tree : goal.invariant-loop-tree
invariant-loop-tree l = record {
  left : clauses_at (tables_in l.tables) l.fn.bound.binders.items no_clauses (views l.trees) ≡ clauses_at (tables_in l.tables) l.fn.bound.binders.items (clauses_in l.clauses) (views (drop l.tree-index l.trees));
  keeps : KeepsBound l.fn.bound l.bound;
}
