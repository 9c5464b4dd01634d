use Rattle.std.proofs.Common.{◌∙◌}
use Rattle.qk_shrink.proofs.BlockLaws.{block_here, block_past}
use Rattle.qk_shrink.proofs.blocks.seek_block.Goals as goal

pub loop-size-preserved : goal.loop-size-preserved
loop-size-preserved c =
    block_past c.args.items c.loop-size.size c.loop-size.left c.loop-size-test.true c.if-left-many.false ∙ c.loop-size.invariant

pub returns-then-left-many-clause-found : goal.returns-then-left-many-clause-found
returns-then-left-many-clause-found c =
    block_here c.args.items c.loop-size.size c.loop-size.left c.loop-size-test.true c.if-left-many.true ∙ c.loop-size.invariant
