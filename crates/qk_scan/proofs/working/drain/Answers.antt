use Rattle.std.proofs.Common.{rules}
use Rattle.qk_board.specs.Seats.{view_of}
use Rattle.qk_scan.proofs.Draws.{draws_both}
use Rattle.qk_scan.proofs.working.drain.Goals as goal

pub loop-dry-preserved : goal.loop-dry-preserved
loop-dry-preserved g c =
    record {
      seat = c.turn.ensures.seat;
      worked = c.in_ok-dry.ensures.worked;
      drew = draws_both c.args.range (view_of c.args.seat.now).draws (view_of c.loop-dry.seat).draws (view_of c.turn.new.seat).draws c.loop-dry.invariant.drew c.in_ok-dry.ensures.more;
      wet = search rules;
      met = search rules;
    }
