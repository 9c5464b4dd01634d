use Rattle.std.proofs.Common.{arith}
use Rattle.qk_board.specs.StridesLaw.{stride_below}
use Rattle.qk_board.proofs.strides.StridesLayout.number.Goals as goal

pub overflow_mul-result : goal.overflow_mul-result
overflow_mul-result c = let s = c.args.self.now in let b = stride_below s.limit s.ranges s.few.1 c.args.range c.args.index c.requires in let few = s.few.0 in record { fits = omega arith }

pub overflow_add-result : goal.overflow_add-result
overflow_add-result c = let s = c.args.self.now in let b = stride_below s.limit s.ranges s.few.1 c.args.range c.args.index c.requires in let few = s.few.0 in record { fits = omega arith }
