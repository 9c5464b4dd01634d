-- What is left comes to what the whole does.
use Rattle.std.proofs.Common.{◌≡◌, drop, map, []}
use Rattle.qk_syntax.specs.View.{views}
use Rattle.qk_names.specs.NameTable.{names_in}
use Rattle.qk_headers.specs.TypesOf.{types_after}
use Rattle.qk_value.specs.View.{view_type}
use Rattle.qk_headers.proofs.types_of.types_at.Given as goal

abbrev pub invariant-loop-tree : goal.invariant-loop-tree
invariant-loop-tree l = types_after (names_in l.names) [] (views l.trees) ≡ types_after (names_in l.names) (map view_type l.types.items) (views (drop l.tree-index l.trees))
