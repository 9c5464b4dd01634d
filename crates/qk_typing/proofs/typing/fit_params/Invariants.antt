-- What is left decides as the whole does.
use Rattle.std.proofs.Common.{◌≡◌, drop, map}
use Rattle.qk_typing.specs.Operators.{have_types}
use Rattle.qk_headers.specs.Scopes.{types_of}
use Rattle.qk_typing.specs.TablesView.{typed_in}
use Rattle.qk_typing.proofs.typing.fit_params.Given as goal

abbrev pub invariant-loop-i : goal.invariant-loop-i
invariant-loop-i l =
    have_types (types_of l.params) (map typed_in l.parts) ≡ have_types (types_of (drop l.i l.params)) (map typed_in (drop l.i l.parts))
