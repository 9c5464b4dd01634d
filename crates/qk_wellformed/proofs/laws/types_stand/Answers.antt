use Rattle.qk_wellformed.proofs.TypesStand.{type_stands, type_given}
use Rattle.qk_wellformed.proofs.laws.types_stand.Goals as goal

pub returns : goal.returns
returns c = record { judged = type_given; stands = type_stands }
