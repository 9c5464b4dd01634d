use Rattle.std.proofs.Common.{◌≡◌, ℕ, ◌≤◌, length}
use Rattle.qk_totals.specs.Totals.{total, times, EachBelow}
use Rattle.qk_pool.specs.Numbers.{numbers_of, ends_of}
use Rattle.qk_pool.specs.Serving.{strays}
use Rattle.qk_pool.specs.Tokens.{put_of, IsFeederOf}
use Rattle.qk_pool.proofs.feeding.fill.Given as goal

abbrev pub invariant-loop-number : goal.invariant-loop-number
invariant-loop-number g l = record {
  feeder : IsFeederOf l.relay l.feeder;
  going : ends_of (put_of l.feeder) ≡ 0;
  place : length (put_of l.feeder) ≡ l.number;
  each : EachBelow l.number (λ n. times n (numbers_of (put_of l.feeder)));
  told : total (strays (g.F.Feed.inputs l.fn.feed)) (put_of l.feeder) ≡ 0;
  counts : (n : ℕ) → g.F.Feed.faults l.fn.feed n ≤ g.F.Feed.faults l.feed n;
  made : g.F.Feed.made l.feed ≡ g.F.Feed.made l.fn.feed;
  inputs : (n : ℕ) → g.F.Feed.inputs l.feed n ≡ g.F.Feed.inputs l.fn.feed n;
}
