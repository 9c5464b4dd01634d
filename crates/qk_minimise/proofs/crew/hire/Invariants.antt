use Rattle.std.proofs.Common.{◌≡◌, ◌+◌, length, All}
use Rattle.qk_minimise.specs.Crew.{IsReady}
use Rattle.qk_minimise.proofs.crew.hire.Given as goal

abbrev pub invariant-loop-walker : goal.invariant-loop-walker
invariant-loop-walker g l = record {
  all : length l.ready.items + length l.walkers.items ≡ length l.fn.walkers.items;
  rest : All (IsReady l.table.table.shared.table_id l.table.family.now l.table.root.now l.table.limit) l.walkers.items;
  ready : All (λ h. IsReady l.table.table.shared.table_id l.table.family.now l.table.root.now l.table.limit h.walker) l.ready.items;
}

abbrev pub decreases-loop-walker : goal.decreases-loop-walker
decreases-loop-walker g l = length l.walkers.items
