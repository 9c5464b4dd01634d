use Rattle.std.proofs.Common.{◌≡◌}
use Rattle.qk_path.specs.Walkers.{view_of, IsWalkerOf}
use Rattle.qk_minimise.specs.Walk.{Walks, budget}
use Rattle.qk_minimise.proofs.walking.stay.Given as goal

abbrev pub invariant-loop-step : goal.invariant-loop-step
invariant-loop-step g l = record {
  walker : IsWalkerOf l.table.table.shared.table_id l.table.family.now l.table.root.now l.table.limit l.walker;
  path : (view_of l.walker).path ≡ (view_of l.fn.walker).path;
  walks : Walks (g.F.Family.children l.table.family.now) (g.F.Family.failing l.table.family.now) l.table.root.now (view_of l.walker);
}

abbrev pub decreases-loop-step : goal.decreases-loop-step
decreases-loop-step g l = budget (g.F.Family.children l.table.family.now) l.table.root.now (view_of l.walker)
