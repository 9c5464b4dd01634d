use Rattle.std.proofs.Common.{rules, arith, ◌<◌}
use Rattle.qk_board.proofs.Steps.{looks}
use Rattle.qk_board.proofs.board.Board.bound.Goals as goal

pub load-seen-requires : goal.load-seen-requires
load-seen-requires g c = let k = c.args.self.now.table.shared.key in let alive : 0 < c.args.seat.now.seat.me.0.parts = omega (arith, c.requires.seat.3) in
    (search rules, search rules, looks k.limit k.seats k.lengths.items _ _ c.args.seat.now.seat.me alive)
