use Rattle.qk_engine.proofs.Agreeing.{greedy_is_for_files}
use Rattle.qk_engine.proofs.laws.greedy_is_for_files.Goals as goal

pub returns : goal.returns
returns c = greedy_is_for_files
