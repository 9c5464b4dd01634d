-- What is kept after the splits so far.
use Rattle.std.proofs.Common.{◌≡◌}
use Rattle.qk_splitmix.specs.Attempts.{rights}
use Rattle.qk_property.proofs.trial.skip.Given as goal

abbrev pub invariant-loop : goal.invariant-loop
invariant-loop l = l.now ≡ rights l.counter l.fn.kept
