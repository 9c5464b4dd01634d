use Rattle.std.proofs.Common.{arith, ◌≡◌, ◌+◌, ◌-◌, subst}
use Rattle.std.specs.Mem.Slots.{slots_items}
use Rattle.qk_board.specs.DryBits.{TellsDry}
use Rattle.qk_board.proofs.Closing.{next_bit, read}
use Rattle.qk_board.proofs.board.closes.dry_bits.Goals as goal

pub loop-left-preserved : goal.loop-left-preserved
loop-left-preserved g c =
    let lengths = g.L.Layout.lengths_of c.args.layout.now in let ws = slots_items c.args.shut.now.words in
    let low = c.loop-left.left - 1 in
    let back : c.loop-left.left ≡ low + 1 = omega arith in
    record {
      in_range = omega arith;
      small = c.twice-dry.ensures.small;
      tells = next_bit lengths ws c.loop-left.dry c.twice-dry.result low c.word-word.result c.length-length.result (subst (λ k. TellsDry lengths ws k c.loop-left.dry) back c.loop-left.invariant.tells) (read ws (low + 1) c.word-word.result 0 c.word-word.ensures) c.length-length.ensures.0 c.twice-dry.ensures.full c.twice-dry.ensures.short;
    }
