use Rattle.qk_value.specs.View.{view_type}
use Rattle.qk_value.proofs.TypeLaws.{same_iff}
use Rattle.qk_names.proofs.Following.{same_truth}
use Rattle.qk_headers.proofs.checking.is_same.Goals as goal

pub returns : goal.returns
returns c = same_truth _ _ c.equal.ensures (same_iff (view_type c.args.a.now) (view_type c.args.b.now))
