-- The kinds so far have their counts.
use Rattle.std.proofs.Common.{◌≡◌, ◌<◌, ℕ, length, get_or}
use Rattle.qk_value.specs.Types.{made_type}
use Rattle.qk_series.specs.Members.{saturated}
use Rattle.qk_series.specs.Series.{series}
use Rattle.qk_series.proofs.counts.Counts.row.Given as goal

abbrev pub invariant-loop-kind : goal.invariant-loop-kind
invariant-loop-kind l =
    (length l.row.items ≡ l.kind)
    × ((k : ℕ) → k < l.kind → get_or l.row.items k 0 ≡ saturated (length (series l.self.kinds.now (length l.self.rows.items) (made_type k))))
