use Rattle.std.proofs.Common.{arith}
use Rattle.qk_pool.proofs.Keeps.{forks}
use Rattle.qk_pool.proofs.relay.Relay.deal.Goals as goal

pub another-theirs-requires-clause-rule : goal.another-theirs-requires-clause-rule
another-theirs-requires-clause-rule c = forks _ _ c.loop.invariant.feeds (omega (arith, c.loop.invariant.parts, c.args.self.now.few))
