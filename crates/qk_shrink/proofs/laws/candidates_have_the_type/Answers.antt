use Rattle.qk_shrink.proofs.TypedLaws.{typed}
use Rattle.qk_shrink.proofs.laws.candidates_have_the_type.Goals as goal

pub returns : goal.returns
returns c = typed
