use Rattle.std.proofs.Common.{arith}
use Rattle.std.proofs.lemmas.Int.{to_z-of_z}
use Rattle.qk_splitmix.proofs.Picks.{pick_is}
use Rattle.qk_splitmix.proofs.choosing.choose.Goals as goal

pub returns-clause-exact : goal.returns-clause-exact
returns-clause-exact c = grind (arith, to_z-of_z, pick_is)
