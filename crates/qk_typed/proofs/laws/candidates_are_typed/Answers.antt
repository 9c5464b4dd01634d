use Rattle.qk_typed.proofs.Candidates.{candidates_typed}
use Rattle.qk_typed.proofs.laws.candidates_are_typed.Goals as goal

pub returns : goal.returns
returns c = candidates_typed
