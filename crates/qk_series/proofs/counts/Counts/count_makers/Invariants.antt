-- What is counted of the first makers, and the values by what is left, make the whole.
use Rattle.std.proofs.Common.{◌≡◌, ◌+◌, length, drop}
use Rattle.qk_series.specs.Members.{saturated}
use Rattle.qk_series.specs.Series.{below, made_values}
use Rattle.qk_series.proofs.counts.Counts.count_makers.Given as goal

abbrev pub invariant-loop-maker : goal.invariant-loop-maker
invariant-loop-maker l =
    (l.count ≡ saturated l.count)
    × (saturated (l.count + length (made_values (below l.self.kinds.now (length l.self.rows.items)) l._kind l.maker-index (drop l.maker-index l.makers)))
    ≡ saturated (length (made_values (below l.self.kinds.now (length l.self.rows.items)) l._kind 0 l.makers)))
