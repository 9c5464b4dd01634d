use Rattle.std.proofs.Common.{arith, ◌<◌, sym, ◌≤◌}
use Rattle.qk_board.specs.Layouts.{stride_length}
use Rattle.qk_board.specs.StridesLaw.{length_small}
use Rattle.qk_board.specs.Tables.{table_at, table_past}
use Rattle.qk_board.proofs.strides.StridesLayout.length.Goals as goal

pub returns-then-range-self : goal.returns-then-range-self
returns-then-range-self c = let s = c.args.self.now in let r = c.args.range in
    let low : r < s.ranges = omega arith in (sym (table_at (stride_length s.limit s.ranges) s.ranges r low), length_small s.limit s.ranges r s.few.1 s.few.0)

pub returns-else-range-self : goal.returns-else-range-self
returns-else-range-self c = let s = c.args.self.now in let r = c.args.range in
    let high : s.ranges ≤ r = omega arith in (sym (table_past (stride_length s.limit s.ranges) 0 s.ranges r high), omega arith)
