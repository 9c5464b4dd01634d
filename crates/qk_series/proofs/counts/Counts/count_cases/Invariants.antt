-- What is counted of the first binders, and the cases of what is left, make the whole.
use Rattle.std.proofs.Common.{◌≡◌, ◌*◌, length, drop}
use Rattle.qk_series.specs.Cases.{cases}
use Rattle.qk_series.specs.Members.{saturated}
use Rattle.qk_series.proofs.counts.Counts.count_cases.Given as goal

abbrev pub invariant-loop-binder : goal.invariant-loop-binder
invariant-loop-binder l =
    (l.count ≡ saturated l.count)
    × (saturated (l.count * length (cases l.self.kinds.now l.depth (drop l.binder-index l.binders))) ≡ saturated (length (cases l.self.kinds.now l.depth l.binders)))
