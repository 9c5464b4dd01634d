use Rattle.std.proofs.Common.{arith, ◌*◌, ◌<◌, ◌≤◌, sym}
use Rattle.qk_board.specs.Layouts.{block_length}
use Rattle.qk_board.specs.BlocksLaw.{block_at, block_none}
use Rattle.qk_board.specs.Tables.{table_past}
use Rattle.qk_board.proofs.blocks.BlocksLayout.length.Goals as goal

pub returns-then-range-self : goal.returns-then-range-self
returns-then-range-self c = let b = c.args.self.now in let r = c.args.range in
    let high : b.ranges ≤ r = omega arith in (sym (table_past (block_length b.limit b.ranges) 0 b.ranges r high), omega arith)

pub returns-then-start-self : goal.returns-then-start-self
returns-then-start-self c = let b = c.args.self.now in let r = c.args.range in let w = c.width-width.result in
    let low : r < b.ranges = omega arith in
    (block_at b.limit b.ranges r w c.min.result low c.width-width.ensures.0 c.min.ensures, omega (arith, c.min.ensures, c.width-width.ensures.1))

pub returns-else-start-self : goal.returns-else-start-self
returns-else-start-self c = let b = c.args.self.now in let r = c.args.range in let w = c.width-width.result in
    let low : r < b.ranges = omega arith in
    let high : b.limit ≤ r * w = omega arith in
    (block_at b.limit b.ranges r w 0 low c.width-width.ensures.0 (block_none b.limit (r * w) w high), omega arith)
