use Rattle.std.proofs.Common.{◌≡◌, [], ◌∷◌, ◌++◌, All, subst}
use Rattle.qk_totals.proofs.Gather.{all_last}
use Rattle.qk_board.specs.declared.seat.BoardSeat.{BoardSeat}
use Rattle.qk_board.specs.Views.{IsEmptyView}
use Rattle.qk_board.specs.Seats.{view_of, IsSeatOf}
use Rattle.qk_worker_tests.proofs.scan.only_seat.Goals as goal

pub returns : goal.returns
returns g c =
    let b = c.args.board.now in
    let P : BoardSeat → Type 0 = λ s. IsSeatOf b.table.shared.table_id (g.L.Layout.limit_of b.layout) (g.L.Layout.lengths_of b.layout) s × IsEmptyView (view_of s) in
    let items : c.args.seats.items ≡ c.pop.new.self.items ++ c.in-Some.seat ∷ [] = c.in-Some.ensures in
    all_last P c.pop.new.self.items c.in-Some.seat (subst (All P) items c.requires.seats)
