use Rattle.std.proofs.Common.{◌≡◌}
use Rattle.qk_pool.specs.Numbers.{ends_of}
use Rattle.qk_pool.specs.Tokens.{taken_of, IsTakerOf}
use Rattle.qk_batch_tests.proofs.relay.take_all.Given as goal

abbrev pub invariant-loop : goal.invariant-loop
invariant-loop g l = IsTakerOf l.relay l.taker × (ends_of (taken_of l.taker) ≡ 0)
