use Rattle.std.proofs.Common.{◌≡◌, Bool, true, false, IsTrue, ◌↔◌, refl, sym}
use Rattle.qk_value.specs.View.{view_type}
use Rattle.qk_value.proofs.TypeLaws.{same_iff}
use Rattle.qk_typing.proofs.typing.is_same.Goals as goal

same_tests : {P : Type 0} (b d : Bool) → IsTrue b ↔ P → IsTrue d ↔ P → b ≡ d
same_tests true true f g = refl
same_tests false false f g = refl
same_tests true false f g = sym (g.1 (f.0 refl))
same_tests false true f g = f.1 (g.0 refl)

pub returns : goal.returns
returns c = same_tests _ _ c.equal.ensures (same_iff (view_type c.args.ty.now) (view_type c.args.other.now))
