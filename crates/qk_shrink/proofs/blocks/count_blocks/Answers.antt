use Rattle.std.proofs.Common.{arith}
use Rattle.qk_shrink.proofs.BlockLaws.{count_more, few_blocks}
use Rattle.qk_shrink.proofs.blocks.count_blocks.Goals as goal

pub overflow_add-count : goal.overflow_add-count
overflow_add-count c =
    omega (arith, count_more c.args.items c.loop-block.block c.loop-block-test.true, few_blocks c.args.items c.args.items c.requires, c.loop-block.invariant, c.requires)

pub loop-block-preserved : goal.loop-block-preserved
loop-block-preserved c = omega (arith, count_more c.args.items c.loop-block.block c.loop-block-test.true, c.loop-block.invariant)

pub returns-clause-bounded : goal.returns-clause-bounded
returns-clause-bounded c = omega (arith, few_blocks c.args.items c.args.items c.requires, c.loop-block.invariant)
