use Rattle.std.proofs.Common.{rules, arith, ◌≡◌, ◌+◌, false, [], ◌∷◌, ◌++◌, length, length-append, All, sym, subst}
use Rattle.qk_totals.proofs.Gather.{all_last, all_front, one_shorter}
use Rattle.qk_board.specs.declared.seat.BoardSeat.{BoardSeat}
use Rattle.qk_board.specs.Views.{IsEmptyView}
use Rattle.qk_board.specs.Seats.{view_of}
use Rattle.qk_scan.specs.declared.crew.Worker.{Worker}
use Rattle.qk_scan.specs.Crew.{IsSeatOn, IsReady}
use Rattle.qk_scan.specs.Each.{Each}
use Rattle.qk_scan.proofs.Eachs.{each_append}
use Rattle.qk_scan.proofs.crew.hire.Goals as goal

pub loop-seat-preserved : goal.loop-seat-preserved
loop-seat-preserved g c =
    let b = c.args.board.now in
    let P : BoardSeat → Type 0 = λ s. IsSeatOn b s × IsEmptyView (view_of s) in
    let R : Worker g.row.A.Denot → Type 0 = IsReady b in
    let rest = c.pop.new.self.items in let seat = c.in-Some.seat in
    let items : c.loop-seat.seats.items ≡ rest ++ seat ∷ [] = c.in-Some.ensures in
    let all : All P (rest ++ seat ∷ []) = subst (All P) items c.loop-seat.invariant.rest in
    let mine : P seat = all_last P rest seat all in
    let one : Worker g.row.A.Denot = record { seat = seat; found = c.reserve.new.self; failed = false } in
    let empty : c.reserve.new.self.items ≡ [] = search rules in
    let pushed : c.push.new.self.items ≡ c.loop-seat.workers.items ++ one ∷ [] = search rules in
    let short = one_shorter c.loop-seat.seats.items rest seat items in
    let before = c.loop-seat.invariant.all in
    record {
      all = (let longer : length c.push.new.self.items ≡ length c.loop-seat.workers.items + 1 = search (rules, length-append) in omega arith);
      rest = all_front P rest seat all;
      ready = subst (Each R) (sym pushed) (each_append R c.loop-seat.workers.items (one ∷ []) c.loop-seat.invariant.ready ((mine.0, mine.1, empty), tt));
    }
