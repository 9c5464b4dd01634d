use Rattle.qk_engine.proofs.Agreeing.{greedy_decides_only_shrinks}
use Rattle.qk_engine.proofs.laws.greedy_decides_only_shrinks.Goals as goal

pub returns : goal.returns
returns c = greedy_decides_only_shrinks
