use Rattle.std.proofs.Common.{◌≡◌}
use Rattle.qk_splitmix.proofs.Made.{firsts}
use Rattle.qk_splitmix.specs.Attempts.{rights}
use Rattle.qk_splitmix.proofs.attempts.attempt_gens.Given as goal

abbrev pub invariant-loop : goal.invariant-loop
invariant-loop l = record {
  made : l.gens.items ≡ firsts l.counter l.fn.rest;
  kept : l.kept ≡ rights l.counter l.fn.rest;
}
