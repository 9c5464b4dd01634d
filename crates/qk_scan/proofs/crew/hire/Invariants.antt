use Rattle.std.proofs.Common.{◌≡◌, ◌+◌, length, All}
use Rattle.qk_board.specs.Views.{IsEmptyView}
use Rattle.qk_board.specs.Seats.{view_of}
use Rattle.qk_scan.specs.Each.{Each}
use Rattle.qk_scan.specs.Crew.{IsSeatOn, IsReady}
use Rattle.qk_scan.proofs.crew.hire.Given as goal

abbrev pub invariant-loop-seat : goal.invariant-loop-seat
invariant-loop-seat g l = record {
  all : length l.workers.items + length l.seats.items ≡ length l.fn.seats.items;
  rest : All (λ s. IsSeatOn l.board s × IsEmptyView (view_of s)) l.seats.items;
  ready : Each (IsReady l.board) l.workers.items;
}

abbrev pub decreases-loop-seat : goal.decreases-loop-seat
decreases-loop-seat g l = length l.seats.items
