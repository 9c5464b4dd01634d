use Rattle.std.proofs.Common.{◌≡◌, ◌<◌, ◌⊎◌, true, sym, subst}
use Rattle.qk_board.specs.declared.seat.BoardSeat.{BoardSeat}
use Rattle.qk_board.specs.Seats.{view_of}
use Rattle.qk_board.specs.Layouts.{IsLayout}
use Rattle.qk_scan.specs.Each.{Each}
use Rattle.qk_scan.specs.Slots.{IsSettled, Done}
use Rattle.qk_scan.proofs.Eachs.{each_map, each_at}
use Rattle.qk_scan.proofs.Reaching.{reaches, misses, at_bound}
use Rattle.qk_scan.proofs.scanning.finish.Goals as goal

pub collect-requires-clause-filled : goal.collect-requires-clause-filled
collect-requires-clause-filled g c κs within n low le =
    let j = g.J.Jobs in let js = c.args.jobs.now in let b = c.args.board in
    let limit = g.L.Layout.limit_of b.layout in let lengths = g.L.Layout.lengths_of b.layout in let number = g.L.Layout.number_of b.layout in let law : IsLayout limit lengths number = subst (λ l. IsLayout (g.L.Layout.limit_of l) (g.L.Layout.lengths_of l) (g.L.Layout.number_of l)) c.layout.ensures c.by_law.ensures in
    let ss = c.args.seats.items in let told = c.close-closed.ensures in let w = told.words in
    let P : BoardSeat → Type 0 = IsSettled b (j.answer_at js) (j.hits js) c.args.slots.items in
    let all : Each (λ s. Done lengths number (j.answer_at js) (j.hits js) (view_of s)) ss = each_map P (λ s. Done lengths number (j.answer_at js) (j.hits js) (view_of s)) (λ s h. h.1) ss c.requires.seats in
    let t = reaches number (j.answer_at js) (j.hits js) view_of limit lengths w.0 law ss c.requires.all.0 all c.close-closed.result.bound told.bound (λ m h. (told.seen m h).0) w.1 w.2 n (subst (λ k. n < k) (sym c.requires.count) low) le in
    let settled : P t.0 = each_at P ss t.1 t.0 t.4 c.requires.seats in
    settled.2 n (subst (λ k. n < k) (sym c.requires.slots.0) low) t.3

pub collect-requires-clause-misses : goal.collect-requires-clause-misses
collect-requires-clause-misses g c κs within n less =
    let j = g.J.Jobs in let js = c.args.jobs.now in let b = c.args.board in
    let limit = g.L.Layout.limit_of b.layout in let lengths = g.L.Layout.lengths_of b.layout in let number = g.L.Layout.number_of b.layout in let law : IsLayout limit lengths number = subst (λ l. IsLayout (g.L.Layout.limit_of l) (g.L.Layout.lengths_of l) (g.L.Layout.number_of l)) c.layout.ensures c.by_law.ensures in
    let ss = c.args.seats.items in let told = c.close-closed.ensures in let w = told.words in
    let P : BoardSeat → Type 0 = IsSettled b (j.answer_at js) (j.hits js) c.args.slots.items in
    let all : Each (λ s. Done lengths number (j.answer_at js) (j.hits js) (view_of s)) ss = each_map P (λ s. Done lengths number (j.answer_at js) (j.hits js) (view_of s)) (λ s h. h.1) ss c.requires.seats in
    misses number (j.answer_at js) (j.hits js) view_of limit lengths w.0 law ss c.requires.all.0 all c.close-closed.result.bound told.bound (λ m h. (told.seen m h).0) w.1 w.2 n less

pub collect-requires-clause-bound : goal.collect-requires-clause-bound
collect-requires-clause-bound g c κs within =
    let j = g.J.Jobs in let js = c.args.jobs.now in let b = c.args.board in
    let limit = g.L.Layout.limit_of b.layout in let lengths = g.L.Layout.lengths_of b.layout in let number = g.L.Layout.number_of b.layout in let law : IsLayout limit lengths number = subst (λ l. IsLayout (g.L.Layout.limit_of l) (g.L.Layout.lengths_of l) (g.L.Layout.number_of l)) c.layout.ensures c.by_law.ensures in
    let ss = c.args.seats.items in let told = c.close-closed.ensures in let w = told.words in
    let P : BoardSeat → Type 0 = IsSettled b (j.answer_at js) (j.hits js) c.args.slots.items in
    let all : Each (λ s. Done lengths number (j.answer_at js) (j.hits js) (view_of s)) ss = each_map P (λ s. Done lengths number (j.answer_at js) (j.hits js) (view_of s)) (λ s h. h.1) ss c.requires.seats in
    let bound = c.close-closed.result.bound in
    subst (λ k. (bound ≡ k) ⊎ (j.hits js (j.answer_at js bound) ≡ true)) c.requires.count
    (at_bound number (j.answer_at js) (j.hits js) view_of limit lengths w.0 law ss c.requires.all.0 all bound told.bound (λ m h. (told.seen m h).0) w.1 w.2)
