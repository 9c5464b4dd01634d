use Rattle.qk_value.specs.View.{view_type}
use Rattle.qk_value.proofs.TypeLaws.{same_iff}
use Rattle.qk_value.proofs.ty.Ty.equal.Goals as goal

pub returns : goal.returns
returns c = rw c.is_same.ensures (same_iff (view_type c.args.self.now) (view_type c.args.other.now))
