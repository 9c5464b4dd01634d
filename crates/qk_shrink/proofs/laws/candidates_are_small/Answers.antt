use Rattle.qk_shrink.proofs.TupleLaws.{candidates_small, candidates_many}
use Rattle.qk_shrink.proofs.laws.candidates_are_small.Goals as goal

pub returns-clause-small : goal.returns-clause-small
returns-clause-small c = candidates_small

pub returns-clause-many : goal.returns-clause-many
returns-clause-many c = candidates_many
