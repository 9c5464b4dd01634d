use Rattle.qk_typed.proofs.Programs.{meanings_typed}
use Rattle.qk_typed.proofs.laws.meanings_are_typed.Goals as goal

pub returns : goal.returns
returns c = meanings_typed
