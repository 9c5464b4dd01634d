use Rattle.std.proofs.Common.{◌≡◌, ◌++◌, replicate}
use Rattle.qk_pool.specs.declared.taken.Taken.TheVariants.{End}
use Rattle.qk_pool.specs.Tokens.{put_of, IsFeederOf}
use Rattle.qk_pool.proofs.relay.Relay.end.Given as goal

abbrev pub invariant-loop : goal.invariant-loop
invariant-loop g l = record {
  feeder : IsFeederOf l.self l.feeder;
  put : put_of l.feeder ≡ put_of l.fn.feeder ++ replicate l.counter End;
}
