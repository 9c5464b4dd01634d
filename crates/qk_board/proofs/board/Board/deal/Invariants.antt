use Rattle.std.proofs.Common.{◌≡◌, ◌+◌, ◌<◌, [], length, All}
use Rattle.qk_board.specs.Views.{fresh, IsEmptyView}
use Rattle.qk_board.specs.Seats.{view_of, IsSeatOf}
use Rattle.qk_board.proofs.board.Board.deal.Given as goal

abbrev pub invariant-loop-left : goal.invariant-loop-left
invariant-loop-left g l = record {
  some : 0 < l.left;
  count : length l.list.items + l.left ≡ l.seats;
  table : l.first.table_id ≡ l.self.table.shared.table_id;
  me : l.first.me ≡ (fresh (g.L.Layout.limit_of l.self.layout) (g.L.Layout.lengths_of l.self.layout) l.left, []);
  made : All (λ s. IsSeatOf l.self.table.shared.table_id (g.L.Layout.limit_of l.self.layout) (g.L.Layout.lengths_of l.self.layout) s × IsEmptyView (view_of s)) l.list.items;
}

abbrev pub decreases-loop-left : goal.decreases-loop-left
decreases-loop-left g l = l.left
