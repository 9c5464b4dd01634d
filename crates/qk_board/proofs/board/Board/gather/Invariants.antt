use Rattle.std.proofs.Common.{◌≡◌, ℕ, ◌+◌, ◌<◌, length, All}
use Rattle.qk_totals.specs.Totals.{total}
use Rattle.qk_board.specs.Views.{draws_of, dries_of, lowers_of, sights_of}
use Rattle.qk_board.specs.Seats.{view_of, IsSeatOf}
use Rattle.qk_board.proofs.board.Board.gather.Given as goal

abbrev pub invariant-loop-next : goal.invariant-loop-next
invariant-loop-next g l = record {
  some : 0 < l.all.me.0.parts;
  table : l.all.table_id ≡ l.self.table.shared.table_id;
  parts : l.all.me.0.parts + length l.seats.items ≡ length l.fn.seats.items;
  draws : (r x : ℕ) → draws_of r x l.all.me.0 + total (λ s. draws_of r x (view_of s)) l.seats.items ≡ total (λ s. draws_of r x (view_of s)) l.fn.seats.items;
  lowered : (n : ℕ) → lowers_of n l.all.me.0 + total (λ s. lowers_of n (view_of s)) l.seats.items ≡ total (λ s. lowers_of n (view_of s)) l.fn.seats.items;
  dries : (r : ℕ) → dries_of r l.all.me.0 + total (λ s. dries_of r (view_of s)) l.seats.items ≡ total (λ s. dries_of r (view_of s)) l.fn.seats.items;
  seen : (n : ℕ) → sights_of n l.all.me.0 + total (λ s. sights_of n (view_of s)) l.seats.items ≡ total (λ s. sights_of n (view_of s)) l.fn.seats.items;
  rest : All (IsSeatOf l.self.table.shared.table_id (g.L.Layout.limit_of l.self.layout) (g.L.Layout.lengths_of l.self.layout)) l.seats.items;
}

abbrev pub decreases-loop-next : goal.decreases-loop-next
decreases-loop-next g l = length l.seats.items
