-- What is left comes to what the whole does.
use Rattle.std.proofs.Common.{◌≡◌, [], map, drop}
use Rattle.qk_syntax.specs.View.{views}
use Rattle.qk_generators.specs.DrawingView.{part_in, drawn_in}
use Rattle.qk_generators.specs.Generators.{generators, parts_at}
use Rattle.qk_typing.specs.TablesView.{tables_in}
use Rattle.qk_headers.specs.TypesOf.{parts_after}
use Rattle.qk_generators.proofs.generators.+generators.Given as goal

abbrev pub invariant-drawn_parts-loop-i : goal.invariant-drawn_parts-loop-i
invariant-drawn_parts-loop-i l = record {
  scope : l.scope.items ≡ l.fn.scope.items;
  left : generators (tables_in l.tables) l.fn.scope.items [] (parts_after (views l.parts)) ≡ generators (tables_in l.tables) l.fn.scope.items (map drawn_in l.seen.items) (views (drop l.i l.parts));
}

abbrev pub invariant-weighed_parts-loop-i : goal.invariant-weighed_parts-loop-i
invariant-weighed_parts-loop-i l = record {
  scope : l.scope.items ≡ l.fn.scope.items;
  left : parts_at (tables_in l.tables) l.fn.scope.items [] (parts_after (views l.parts)) ≡ parts_at (tables_in l.tables) l.fn.scope.items (map part_in l.seen.items) (views (drop l.i l.parts));
}
