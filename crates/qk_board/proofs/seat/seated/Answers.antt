use Rattle.qk_board.proofs.Flags.{unflagged}
use Rattle.qk_board.proofs.seat.seated.Goals as goal

pub invariant_of-result : goal.invariant_of-result
invariant_of-result c = record { no_slot = c.requires.0; flags = unflagged c.args.seat.me.0.dry c.requires.1 }
