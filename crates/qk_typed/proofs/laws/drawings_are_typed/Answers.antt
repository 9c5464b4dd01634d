use Rattle.qk_typed.proofs.Programs.{drawings_typed, drawn_calls_typed}
use Rattle.qk_typed.proofs.laws.drawings_are_typed.Goals as goal

pub returns-clause-expressions : goal.returns-clause-expressions
returns-clause-expressions c = drawings_typed

pub returns-clause-calls : goal.returns-clause-calls
returns-clause-calls c = drawn_calls_typed
