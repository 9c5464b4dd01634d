use Rattle.std.proofs.Common.{◌≡◌, ◌-◌, ◌<◌, length}
use Rattle.qk_path.specs.Points.{reached}
use Rattle.qk_path.specs.Walkers.{view_of, IsWalkerOf}
use Rattle.qk_minimise.specs.Walk.{Walks}
use Rattle.qk_minimise.proofs.walking.walk.Given as goal

abbrev pub invariant-loop-spread : goal.invariant-loop-spread
invariant-loop-spread g l =
    let children = g.F.Family.children l.table.family.now in
    record {
      walker : IsWalkerOf l.table.table.shared.table_id l.table.family.now l.table.root.now l.table.limit l.walker;
      below : length (view_of l.walker).path < l.table.limit;
      walks : Walks children (g.F.Family.failing l.table.family.now) l.table.root.now (view_of l.walker);
      spread : g.F.Family.listed l.table.family.now l.spread ≡ children (reached children l.table.root.now (view_of l.walker).path);
    }

abbrev pub decreases-loop-spread : goal.decreases-loop-spread
decreases-loop-spread g l = l.table.limit - length (view_of l.walker).path
