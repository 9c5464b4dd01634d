-- What is left of the number is sought among the blocks of the sizes that are left.
use Rattle.std.proofs.Common.{◌≡◌}
use Rattle.qk_shrink.specs.Blocks.{blocks}
use Rattle.qk_shrink.specs.Sought.{sought}
use Rattle.qk_shrink.proofs.BlockLaws.{blocks_from}
use Rattle.qk_shrink.proofs.blocks.seek_block.Given as goal

abbrev pub invariant-loop-size : goal.invariant-loop-size
invariant-loop-size l = sought (blocks_from l.items l.size) l.left ≡ sought (blocks l.items) l.k

abbrev pub decreases-loop-size : goal.decreases-loop-size
decreases-loop-size l = l.size
