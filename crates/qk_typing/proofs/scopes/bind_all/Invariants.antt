-- What is left adds as the whole does.
use Rattle.std.proofs.Common.{◌≡◌, drop, map}
use Rattle.qk_typing.specs.PartsView.{words_in}
use Rattle.qk_headers.specs.Scopes.{bind_all}
use Rattle.qk_value.specs.View.{view_type}
use Rattle.qk_typing.proofs.scopes.bind_all.Given as goal

abbrev pub invariant-loop-i : goal.invariant-loop-i
invariant-loop-i l =
    bind_all l.fn.scope.items (words_in l.names) (map view_type l.types) ≡ bind_all l.scope.items (words_in (drop l.i l.names)) (map view_type (drop l.i l.types))
