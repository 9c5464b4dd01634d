use Rattle.std.proofs.Common.{◌≡◌, ◌+◌, false, length, All}
use Rattle.qk_minimise.specs.Crew.{IsDone}
use Rattle.qk_minimise.proofs.crew.bring_back.Given as goal

abbrev pub invariant-loop-hired : goal.invariant-loop-hired
invariant-loop-hired g l = record {
  all : length l.list.items + length l.walkers.items ≡ length l.fn.walkers.items;
  rest : All (λ h. h.failed ≡ false → IsDone l.table.table.shared.table_id (g.F.Family.children l.table.family.now) (g.F.Family.failing l.table.family.now) l.table.family.now l.table.root.now l.table.limit h.walker) l.walkers.items;
  done : All (IsDone l.table.table.shared.table_id (g.F.Family.children l.table.family.now) (g.F.Family.failing l.table.family.now) l.table.family.now l.table.root.now l.table.limit) l.list.items;
}

abbrev pub decreases-loop-hired : goal.decreases-loop-hired
decreases-loop-hired g l = length l.walkers.items
