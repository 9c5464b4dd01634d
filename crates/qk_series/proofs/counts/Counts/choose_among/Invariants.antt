-- What is left of the number is sought among the values by what is left of the makers.
use Rattle.std.proofs.Common.{◌≡◌, ◌<◌, pos, length, drop, get_or}
use Rattle.qk_value.specs.Data.{int}
use Rattle.qk_series.specs.Members.{saturated}
use Rattle.qk_series.specs.Series.{below, made_values}
use Rattle.qk_series.proofs.counts.Counts.choose_among.Given as goal

abbrev pub invariant-loop-index : goal.invariant-loop-index
invariant-loop-index l = record {
  number : l.rest < saturated (length (made_values (below l.self.kinds.now l.depth) l._kind l.index (drop l.index l.makers)));
  whole : get_or (made_values (below l.self.kinds.now l.depth) l._kind l.index (drop l.index l.makers)) l.rest (int (pos 0)) ≡ get_or (made_values (below l.self.kinds.now l.depth) l._kind 0 l.makers) l.k (int (pos 0));
}
