use Rattle.qk_engine.proofs.Agreeing.{window_decides_only_work_lines}
use Rattle.qk_engine.proofs.laws.window_decides_only_work_lines.Goals as goal

pub returns : goal.returns
returns c = window_decides_only_work_lines
