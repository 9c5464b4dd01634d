use Rattle.std.proofs.Common.{take}
use Rattle.qk_eval.specs.Rows.{Level}
use Rattle.qk_eval.proofs.rows.level_of.Given as goal

abbrev pub invariant-loop-item : goal.invariant-loop-item
invariant-loop-item l = Level l.level (take l.item-index l.items)
