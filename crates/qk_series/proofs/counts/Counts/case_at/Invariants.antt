-- The values so far, with those of what is left of the number, make the case.
use Rattle.std.proofs.Common.{◌≡◌, ◌<◌, [], length, map, drop, get_or}
use Rattle.qk_value.specs.View.{view_value}
use Rattle.qk_series.specs.Cases.{cases, case_from, case_of}
use Rattle.qk_series.specs.Members.{saturated}
use Rattle.qk_series.proofs.counts.Counts.case_at.Given as goal

abbrev pub invariant-loop-i : goal.invariant-loop-i
invariant-loop-i l = record {
  number : l.rest < saturated (length (cases l.self.kinds.now l.depth (drop l.i l.binders)));
  whole : case_from (map view_value l.values.items) (get_or (cases l.self.kinds.now l.depth (drop l.i l.binders)) l.rest []) ≡ case_of (get_or (cases l.self.kinds.now l.depth l.binders) l.k []);
}
