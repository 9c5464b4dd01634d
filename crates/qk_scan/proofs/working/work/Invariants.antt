use Rattle.std.proofs.Common.{◌≡◌, ◌-◌, ◌<◌, ◌≤◌}
use Rattle.qk_board.specs.Seats.{view_of, IsSeatOf}
use Rattle.qk_scan.specs.Each.{Each}
use Rattle.qk_scan.specs.Work.{Worked, place, DryUpTo, InCyclicOrder}
use Rattle.qk_scan.proofs.working.work.Given as goal

abbrev pub invariant-loop-done : goal.invariant-loop-done
invariant-loop-done g l = record {
  in_range : (l.range < l.ranges) × (l.done ≤ l.ranges);
  stands : l.done < l.ranges → place l.first l.ranges l.range ≡ l.done;
  seat : IsSeatOf l.board.table.shared.table_id (g.L.Layout.limit_of l.board.layout) (g.L.Layout.lengths_of l.board.layout) l.seat;
  worked : Worked (g.L.Layout.number_of l.board.layout) (g.J.Jobs.answer_at l.jobs) (g.J.Jobs.hits l.jobs) (view_of l.seat) l.found.items;
  dry : DryUpTo l.first l.ranges l.done (view_of l.seat).dry;
  order : InCyclicOrder l.first l.ranges (view_of l.seat).draws;
  before : Each (λ d. place l.first l.ranges d.0 < l.done) (view_of l.seat).draws;
}

abbrev pub decreases-loop-done : goal.decreases-loop-done
decreases-loop-done g l = l.ranges - l.done
