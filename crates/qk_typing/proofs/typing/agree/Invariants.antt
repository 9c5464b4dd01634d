-- What is left decides as the whole does.
use Rattle.std.proofs.Common.{◌≡◌, drop, map}
use Rattle.qk_typing.specs.Operators.{agree}
use Rattle.qk_typing.specs.TablesView.{typed_in}
use Rattle.qk_value.specs.View.{view_type}
use Rattle.qk_typing.proofs.typing.agree.Given as goal

abbrev pub invariant-loop-part : goal.invariant-loop-part
invariant-loop-part l = agree (view_type l.ty) (map typed_in l.parts) ≡ agree (view_type l.ty) (map typed_in (drop l.part-index l.parts))
