-- What is left decides as the whole does.
use Rattle.std.proofs.Common.{◌≡◌, drop, map}
use Rattle.qk_typing.specs.Operators.{have_types}
use Rattle.qk_typing.specs.TablesView.{typed_in}
use Rattle.qk_value.specs.View.{view_type}
use Rattle.qk_typing.proofs.typing.have_types.Given as goal

abbrev pub invariant-loop-i : goal.invariant-loop-i
invariant-loop-i l =
    have_types (map view_type l.types) (map typed_in l.parts) ≡ have_types (map view_type (drop l.i l.types)) (map typed_in (drop l.i l.parts))
