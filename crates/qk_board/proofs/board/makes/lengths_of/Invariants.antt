use Rattle.std.proofs.Common.{◌≡◌, take}
use Rattle.qk_board.proofs.board.makes.lengths_of.Given as goal

abbrev pub invariant-loop-range : goal.invariant-loop-range
invariant-loop-range g l = l.lengths.items ≡ take l.range (g.L.Layout.lengths_of l.layout)
