use Rattle.std.proofs.Common.{length}
use Rattle.qk_eval.proofs.machine.+select.Given as goal

abbrev pub decreases-select : goal.decreases-select
decreases-select l = length l.cases.now
