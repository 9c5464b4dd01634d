use Rattle.qk_wellformed.proofs.BindersStand.{binders_stand, binders_given}
use Rattle.qk_wellformed.proofs.laws.binders_stand.Goals as goal

pub returns : goal.returns
returns c = record { judged = λ d before binders trees h. binders_given d trees before binders h; stands = λ d before all trees h. binders_stand d trees before all h }
