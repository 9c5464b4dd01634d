-- The values so far are those passed, and each is small.
use Rattle.std.proofs.Common.{◌≡◌, map, take}
use Rattle.qk_eval.specs.Answers.{AreSmall}
use Rattle.qk_value.specs.View.{view_value}
use Rattle.qk_eval.proofs.evaluation.plain_all.Given as goal

abbrev pub invariant-loop-value : goal.invariant-loop-value
invariant-loop-value l = record {
  same : map view_value l.all.items ≡ take l.value-index l.values;
  small : AreSmall (map view_value l.all.items);
}
