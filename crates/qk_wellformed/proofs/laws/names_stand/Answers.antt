use Rattle.qk_wellformed.proofs.NamesStand.{names_stand, names_given}
use Rattle.qk_wellformed.proofs.laws.names_stand.Goals as goal

pub returns : goal.returns
returns c = record { judged = names_given; stands = names_stand }
