-- The walk goes on over the cases that are left.
use Rattle.std.proofs.Common.{◌≡◌, ◌-◌, ◌≤◌, take, drop}
use Rattle.qk_exhaust.specs.Run.{walked}
use Rattle.qk_exhaust.proofs.exhausting.walk_cases.Given as goal

abbrev pub invariant-loop-first : goal.invariant-loop-first
invariant-loop-first g l =
    let vs = g.C.Cases.verdicts l.cases in
    record {
      within : l.first ≤ l.looked;
      fewer : l.discards ≤ l.first;
      so_far : walked l.first l.discards (take (l.looked - l.first) (drop l.first vs)) ≡ walked 0 0 (take l.looked vs);
    }

abbrev pub decreases-loop-first : goal.decreases-loop-first
decreases-loop-first g l = l.looked - l.first
