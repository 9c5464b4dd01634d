-- What is left comes to what the whole does.
use Rattle.std.proofs.Common.{◌≡◌, [], map, drop}
use Rattle.qk_syntax.specs.View.{views}
use Rattle.qk_expressions.specs.Expressions.{expressions, cases_at}
use Rattle.qk_expressions.specs.CasesView.{shape_in, cases_in}
use Rattle.qk_expressions.specs.Patterns.{no_cases}
use Rattle.qk_typing.specs.TablesView.{tables_in, typed_in}
use Rattle.qk_headers.specs.TypesOf.{parts_after}
use Rattle.qk_expressions.proofs.expressions.+expressions.Given as goal

abbrev pub invariant-arguments-loop-i : goal.invariant-arguments-loop-i
invariant-arguments-loop-i l = record {
  scope : l.scope.items ≡ l.fn.scope.items;
  left : expressions (tables_in l.tables) l.fn.scope.items [] (parts_after (views l.parts)) ≡ expressions (tables_in l.tables) l.fn.scope.items (map typed_in l.seen.items) (views (drop l.i l.parts));
}

abbrev pub invariant-cases_at-loop-i : goal.invariant-cases_at-loop-i
invariant-cases_at-loop-i l = record {
  scope : l.scope.items ≡ l.fn.scope.items;
  left : cases_at (tables_in l.tables) l.fn.scope.items (map shape_in l.shapes) no_cases (views (drop 2 l.parts)) ≡ cases_at (tables_in l.tables) l.fn.scope.items (map shape_in l.shapes) (cases_in l.cases) (views (drop l.i l.parts));
}
