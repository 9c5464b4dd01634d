-- What is left comes to what the whole does.
use Rattle.std.proofs.Common.{◌≡◌, drop}
use Rattle.qk_syntax.specs.View.{views}
use Rattle.qk_headers.specs.Headers.{headers_after, no_headers}
use Rattle.qk_names.specs.NameTable.{names_in}
use Rattle.qk_headers.proofs.headers.headers_of.Given as goal

abbrev pub invariant-loop-tree : goal.invariant-loop-tree
invariant-loop-tree l = headers_after (names_in l.names) no_headers (views l.trees) ≡ headers_after (names_in l.names) l.headers (views (drop l.tree-index l.trees))
