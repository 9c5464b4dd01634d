-- What is counted of the first fields, and the lists of parts of what is left, make the whole.
use Rattle.std.proofs.Common.{◌≡◌, ◌*◌, length, map, drop}
use Rattle.qk_value.specs.View.{view_type}
use Rattle.qk_series.specs.Members.{saturated}
use Rattle.qk_series.specs.Series.{below, tuples}
use Rattle.qk_series.proofs.counts.Counts.count_tuples.Given as goal

abbrev pub invariant-loop-ty : goal.invariant-loop-ty
invariant-loop-ty l =
    (l.count ≡ saturated l.count)
    × (saturated (l.count * length (tuples (map (below l.self.kinds.now l.depth) (map view_type (drop l.ty-index l.types)))))
    ≡ saturated (length (tuples (map (below l.self.kinds.now l.depth) (map view_type l.types)))))
