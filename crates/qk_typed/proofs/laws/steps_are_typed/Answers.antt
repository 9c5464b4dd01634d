use Rattle.qk_typed.proofs.Commands.{starts_typed, steps_typed}
use Rattle.qk_typed.proofs.laws.steps_are_typed.Goals as goal

pub returns-clause-starts : goal.returns-clause-starts
returns-clause-starts c = starts_typed

pub returns-clause-steps : goal.returns-clause-steps
returns-clause-steps c = steps_typed
