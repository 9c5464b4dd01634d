use Rattle.qk_typed.proofs.Commands.{commands_typed}
use Rattle.qk_typed.proofs.laws.commands_are_typed.Goals as goal

pub returns : goal.returns
returns c = commands_typed
