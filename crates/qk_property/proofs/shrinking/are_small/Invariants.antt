-- Each value that was passed is small.
use Rattle.std.proofs.Common.{take}
use Rattle.qk_eval.specs.Answers.{AreSmall}
use Rattle.qk_property.proofs.shrinking.are_small.Given as goal

abbrev pub invariant-loop-value : goal.invariant-loop-value
invariant-loop-value l = AreSmall (take l.value-index l.values)
