use Rattle.qk_sound.proofs.Cases.{drawn_cases_typed, shrunk_cases_typed}
use Rattle.qk_sound.proofs.laws.cases_are_typed.Goals as goal

pub returns-clause-drawn : goal.returns-clause-drawn
returns-clause-drawn c = drawn_cases_typed

pub returns-clause-shrunk : goal.returns-clause-shrunk
returns-clause-shrunk c = shrunk_cases_typed
