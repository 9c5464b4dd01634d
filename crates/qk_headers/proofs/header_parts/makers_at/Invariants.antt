-- What is left comes to what the whole does.
use Rattle.std.proofs.Common.{◌≡◌, drop, []}
use Rattle.qk_syntax.specs.View.{views}
use Rattle.qk_headers.specs.Headers.{makers_after}
use Rattle.qk_names.specs.NameTable.{names_in}
use Rattle.qk_headers.proofs.header_parts.makers_at.Given as goal

abbrev pub invariant-loop-tree : goal.invariant-loop-tree
invariant-loop-tree l = makers_after (names_in l.names) [] (views l.trees) ≡ makers_after (names_in l.names) l.makers.items (views (drop l.tree-index l.trees))
