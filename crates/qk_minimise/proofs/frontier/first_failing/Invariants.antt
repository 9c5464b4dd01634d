use Rattle.std.proofs.Common.{◌-◌, ◌<◌, ◌≤◌}
use Rattle.qk_minimise.proofs.Frontiers.{IsFirst}
use Rattle.qk_minimise.proofs.frontier.first_failing.Given as goal

abbrev pub invariant-loop-first : goal.invariant-loop-first
invariant-loop-first g l =
    let failing = g.F.Family.failing l.family in
    let listed = g.F.Family.listed l.family l.spread in
    record {
      within : l.first ≤ l.count;
      sizes : (0 < l.most) × (l.most ≤ 4096);
      so_far : IsFirst failing listed l.first;
    }

abbrev pub decreases-loop-first : goal.decreases-loop-first
decreases-loop-first g l = l.count - l.first
