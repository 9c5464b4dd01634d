use Rattle.qk_typed.proofs.Series.{enumerated_typed}
use Rattle.qk_typed.proofs.laws.enumerated_cases_are_typed.Goals as goal

pub returns : goal.returns
returns c = enumerated_typed
