use Rattle.qk_typed.proofs.DrawnValues.{drawn_typed, judged_typed}
use Rattle.qk_typed.proofs.laws.values_are_typed.Goals as goal

pub returns-clause-drawn : goal.returns-clause-drawn
returns-clause-drawn c = drawn_typed

pub returns-clause-judged : goal.returns-clause-judged
returns-clause-judged c = judged_typed
