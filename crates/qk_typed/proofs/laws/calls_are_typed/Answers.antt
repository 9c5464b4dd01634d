use Rattle.qk_typed.proofs.Programs.{calls_typed}
use Rattle.qk_typed.proofs.laws.calls_are_typed.Goals as goal

pub returns : goal.returns
returns c = calls_typed
