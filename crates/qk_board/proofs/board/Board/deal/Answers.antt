use Rattle.std.proofs.Common.{rules, ◌<◌, refl, sym, subst, ap}
use Rattle.qk_board.specs.Views.{IsEmptyView}
use Rattle.qk_board.proofs.Steps.{splits}
use Rattle.qk_board.proofs.board.Board.deal.Goals as goal

pub split_seat-seat-requires : goal.split_seat-seat-requires
split_seat-seat-requires g c =
    let k = c.args.self.now.table.shared.key in let v = c.loop-left.first.me.0 in
    let is = ap (λ m. m.0) c.loop-left.invariant.me in
    let bare : IsEmptyView v = subst IsEmptyView (sym is) (refl, refl, refl, refl) in
    let alive : 0 < v.parts = subst (λ u. 0 < u.parts) (sym is) c.loop-left.invariant.some in
    (search rules, search rules, splits k.limit k.seats k.lengths.items _ v bare alive)
