use Rattle.qk_wellformed.specs.StandsFor.{no_bodies}
use Rattle.qk_wellformed.proofs.BodiesStand.{bodies_stand, bodies_given}
use Rattle.qk_wellformed.proofs.laws.bodies_stand.Goals as goal

pub returns : goal.returns
returns c = record { judged = λ d trees core h. bodies_given d trees (no_bodies d.headers) core h; stands = λ d trees core h. bodies_stand d trees (no_bodies d.headers) core h }
