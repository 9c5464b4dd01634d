use Rattle.std.proofs.Common.{sym}
use Rattle.qk_board.specs.Layouts.{stride_length}
use Rattle.qk_board.specs.Tables.{table_length}
use Rattle.qk_board.proofs.strides.StridesLayout.ranges.Goals as goal

pub returns : goal.returns
returns c = let s = c.args.self.now in (sym (table_length (stride_length s.limit s.ranges) 0 s.ranges), s.few.1, s.few.2)
