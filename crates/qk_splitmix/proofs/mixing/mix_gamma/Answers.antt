use Rattle.qk_splitmix.proofs.Odd.{spread_odd}
use Rattle.qk_splitmix.proofs.mixing.mix_gamma.Goals as goal

pub returns-clause-odd : goal.returns-clause-odd
returns-clause-odd c = rw c.spread.ensures (spread_odd c.mix13.result)
