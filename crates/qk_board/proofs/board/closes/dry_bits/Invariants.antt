use Rattle.std.proofs.Common.{◌+◌, ◌-◌, ◌^◌, ◌≤◌}
use Rattle.std.specs.Mem.Slots.{slots_items}
use Rattle.qk_board.specs.DryBits.{TellsDry}
use Rattle.qk_board.proofs.board.closes.dry_bits.Given as goal

abbrev pub invariant-loop-left : goal.invariant-loop-left
invariant-loop-left g l = record {
  in_range : l.left ≤ l.ranges;
  small : l.dry + 1 ≤ 2 ^ (l.ranges - l.left);
  tells : TellsDry (g.L.Layout.lengths_of l.layout) (slots_items l.shut.words) l.left l.dry;
}

abbrev pub decreases-loop-left : goal.decreases-loop-left
decreases-loop-left g l = l.left
