-- The blocks so far and those of the sizes that are left make all.
use Rattle.std.proofs.Common.{◌≡◌, ◌+◌, length}
use Rattle.qk_shrink.specs.Blocks.{blocks}
use Rattle.qk_shrink.proofs.BlockLaws.{blocks_from}
use Rattle.qk_shrink.proofs.blocks.count_blocks.Given as goal

abbrev pub invariant-loop-block : goal.invariant-loop-block
invariant-loop-block l = l.count + length (blocks_from l.items l.block) ≡ length (blocks l.items)

abbrev pub decreases-loop-block : goal.decreases-loop-block
decreases-loop-block l = l.block
