use Rattle.std.proofs.Common.{◌≡◌, [], ◌∷◌, ◌++◌, All, sym, subst}
use Rattle.qk_board.specs.declared.seat.BoardSeat.{BoardSeat}
use Rattle.qk_board.specs.Seats.{IsSeatOf}
use Rattle.qk_totals.proofs.Gather.{all_last, all_front, one_shorter}
use Rattle.qk_worker_tests.proofs.board.take_seat.Goals as goal

pub returns : goal.returns
returns g c =
    let P : BoardSeat → Type 0 = IsSeatOf c.args.board.now.table.shared.table_id (g.L.Layout.limit_of c.args.board.now.layout) (g.L.Layout.lengths_of c.args.board.now.layout) in
    let rest = c.pop.new.self.items in let seat = c.in-Some.seat in
    let items : c.args.seats.now.items ≡ rest ++ seat ∷ [] = c.in-Some.ensures in
    let all : All P (rest ++ seat ∷ []) = subst (All P) items c.requires.seats in
    record { seat = all_last P rest seat all; seats = all_front P rest seat all; length = one_shorter c.args.seats.now.items rest seat items }
