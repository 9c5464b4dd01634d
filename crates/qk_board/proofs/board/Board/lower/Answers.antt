use Rattle.std.proofs.Common.{rules, arith, ◌<◌}
use Rattle.qk_board.proofs.Steps.{lowers}
use Rattle.qk_board.proofs.board.Board.lower.Goals as goal

pub fetch_min-requires : goal.fetch_min-requires
fetch_min-requires g c = let k = c.args.self.now.table.shared.key in let alive : 0 < c.args.seat.now.seat.me.0.parts = omega (arith, c.requires.seat.3) in
    (search rules, search rules, lowers k.limit k.seats k.lengths.items _ _ c.args.number c.args.seat.now.seat.me alive)
