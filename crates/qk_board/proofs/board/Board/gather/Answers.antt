use Rattle.std.proofs.Common.{arith, ◌≡◌, ◌+◌, [], ◌∷◌, ◌++◌, sym, ap, ◌∙◌}
use Rattle.std.proofs.lemmas.List.Elements.{All-same}
use Rattle.qk_board.specs.declared.view.BoardView.{BoardView}
use Rattle.qk_board.specs.declared.seat.BoardSeat.{BoardSeat}
use Rattle.qk_board.specs.Views.{draws_of, dries_of, lowers_of, sights_of, parts_of}
use Rattle.qk_board.specs.Steps.{joined}
use Rattle.qk_board.specs.Seats.{view_of, IsSeatOf}
use Rattle.qk_totals.proofs.Totals.{times_append, drawn_append}
use Rattle.qk_totals.proofs.Gather.{all_last, all_front, passed, first_passed, one_shorter}
use Rattle.qk_board.proofs.Steps.{joins}
use Rattle.qk_board.proofs.board.Board.gather.Goals as goal

pub loop-next-init : goal.loop-next-init
loop-next-init g c =
    let P : BoardSeat → Type 0 = IsSeatOf c.args.self.now.table.shared.table_id (g.L.Layout.limit_of c.args.self.now.layout) (g.L.Layout.lengths_of c.args.self.now.layout) in
    let old = c.args.seats.items in let rest = c.pop.new.self.items in let first = c.in-Some.first in
    let items : old ≡ rest ++ first ∷ [] = c.in-Some.ensures in
    let mine : P first = all_last P rest first (All-same P (rest ++ first ∷ []) old (sym items) c.requires.seats) in
    let is : c.seat_of-all.result.me.0 ≡ view_of first = ap (λ s. s.me.0) c.seat_of-all.ensures.0 in
    let one : c.seat_of-all.result.me.0.parts ≡ 1 = ap parts_of is ∙ mine.3 in
    let short = one_shorter old rest first items in
    record {
      some = omega arith;
      table = ap (λ s. s.table_id) c.seat_of-all.ensures.0 ∙ mine.0;
      parts = omega arith;
      draws = λ r x. first_passed (λ s. draws_of r x (view_of s)) old rest first (draws_of r x c.seat_of-all.result.me.0) items (ap (draws_of r x) is);
      lowered = λ n. first_passed (λ s. lowers_of n (view_of s)) old rest first (lowers_of n c.seat_of-all.result.me.0) items (ap (lowers_of n) is);
      dries = λ r. first_passed (λ s. dries_of r (view_of s)) old rest first (dries_of r c.seat_of-all.result.me.0) items (ap (dries_of r) is);
      seen = λ n. first_passed (λ s. sights_of n (view_of s)) old rest first (sights_of n c.seat_of-all.result.me.0) items (ap (sights_of n) is);
      rest = all_front P rest first (All-same P (rest ++ first ∷ []) old (sym items) c.requires.seats);
    }

pub join_seat-requires : goal.join_seat-requires
join_seat-requires g c =
    let k = c.args.self.now.table.shared.key in
    let P : BoardSeat → Type 0 = IsSeatOf c.args.self.now.table.shared.table_id (g.L.Layout.limit_of c.args.self.now.layout) (g.L.Layout.lengths_of c.args.self.now.layout) in
    let old = c.loop-next.seats.items in let rest = c.pop-in-loop-next.new.self.items in let next = c.in-Some-pop.next in
    let items : old ≡ rest ++ next ∷ [] = c.in-Some-pop.ensures in
    let mine : P next = all_last P rest next (All-same P (rest ++ next ∷ []) old (sym items) c.loop-next.invariant.rest) in (
      c.loop-next.invariant.table,
      ap (λ s. s.table_id) c.seat_of.ensures.0 ∙ mine.0,
      c.seat_of.ensures.1,
      omega (arith, c.args.self.now.words.0),
      joins k.limit k.seats k.lengths.items _ _ c.loop-next.all.me.0 c.seat_of.result.me.0 c.loop-next.invariant.some,
    )

pub loop-next-preserved : goal.loop-next-preserved
loop-next-preserved g c =
    let P : BoardSeat → Type 0 = IsSeatOf c.args.self.now.table.shared.table_id (g.L.Layout.limit_of c.args.self.now.layout) (g.L.Layout.lengths_of c.args.self.now.layout) in
    let inv = c.loop-next.invariant in
    let old = c.loop-next.seats.items in let rest = c.pop-in-loop-next.new.self.items in let next = c.in-Some-pop.next in
    let items : old ≡ rest ++ next ∷ [] = c.in-Some-pop.ensures in
    let mine : P next = all_last P rest next (All-same P (rest ++ next ∷ []) old (sym items) inv.rest) in
    let v = c.loop-next.all.me.0 in let w = c.join_seat.new.seat.me.0 in
    let is : w ≡ joined v (view_of next) = ap (λ m. m.0) c.join_seat.ensures.2 ∙ ap (λ (s : BoardView). joined v s) (ap (λ s. s.me.0) c.seat_of.ensures.0) in
    let sum : w.parts ≡ v.parts + (view_of next).parts = ap parts_of is in
    let one : (view_of next).parts ≡ 1 = mine.3 in
    let short = one_shorter old rest next items in
    record {
      some = omega (arith, inv.some);
      table = c.join_seat.ensures.0 ∙ inv.table;
      parts = omega (arith, inv.parts);
      draws = λ r x. passed (λ s. draws_of r x (view_of s)) old rest next (draws_of r x v) (draws_of r x w) _ items (ap (draws_of r x) is ∙ drawn_append r x v.draws (view_of next).draws) (inv.draws r x);
      lowered = λ n. passed (λ s. lowers_of n (view_of s)) old rest next (lowers_of n v) (lowers_of n w) _ items (ap (lowers_of n) is ∙ times_append n v.lowered (view_of next).lowered) (inv.lowered n);
      dries = λ r. passed (λ s. dries_of r (view_of s)) old rest next (dries_of r v) (dries_of r w) _ items (ap (dries_of r) is ∙ times_append r v.dry (view_of next).dry) (inv.dries r);
      seen = λ n. passed (λ s. sights_of n (view_of s)) old rest next (sights_of n v) (sights_of n w) _ items (ap (sights_of n) is ∙ times_append n v.seen (view_of next).seen) (inv.seen n);
      rest = all_front P rest next (All-same P (rest ++ next ∷ []) old (sym items) inv.rest);
    }
