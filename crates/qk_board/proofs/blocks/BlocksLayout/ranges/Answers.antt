use Rattle.std.proofs.Common.{sym}
use Rattle.qk_board.specs.Layouts.{block_length}
use Rattle.qk_board.specs.Tables.{table_length}
use Rattle.qk_board.proofs.blocks.BlocksLayout.ranges.Goals as goal

pub returns : goal.returns
returns c = let b = c.args.self.now in (sym (table_length (block_length b.limit b.ranges) 0 b.ranges), b.few.1, b.few.2)
