use Rattle.std.proofs.Common.{◌≡◌, true, drop}
use Rattle.qk_path.specs.Points.{reached, Leads}
use Rattle.qk_minimise.proofs.shrinking.follow.Given as goal

abbrev pub invariant-loop-i : goal.invariant-loop-i
invariant-loop-i g l =
    let children = g.F.Family.children l.family in
    record {
      owned : g.F.Family.owns l.family l.point;
      fails : g.F.Family.failing l.family l.point ≡ true;
      leads : Leads children (g.F.Family.failing l.family) l.point (drop l.i l.path);
      so_far : reached children l.point (drop l.i l.path) ≡ reached children l.fn.root l.path;
    }
