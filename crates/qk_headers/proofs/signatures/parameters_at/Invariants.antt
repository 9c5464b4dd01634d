-- What is left comes to what the whole does.
use Rattle.std.proofs.Common.{◌≡◌, drop, []}
use Rattle.qk_syntax.specs.View.{views}
use Rattle.qk_headers.specs.Headers.{parameters_at}
use Rattle.qk_names.specs.NameTable.{names_in}
use Rattle.qk_headers.proofs.signatures.parameters_at.Given as goal

abbrev pub invariant-loop-param : goal.invariant-loop-param
invariant-loop-param l = parameters_at (names_in l.names) [] (views l.params) ≡ parameters_at (names_in l.names) l.scope.items (views (drop l.param-index l.params))
