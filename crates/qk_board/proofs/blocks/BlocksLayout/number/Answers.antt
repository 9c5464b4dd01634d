use Rattle.std.proofs.Common.{arith, ◌*◌, ◌+◌, ◌<◌, sym, subst}
use Rattle.qk_board.specs.BlocksLaw.{block_below}
use Rattle.qk_board.proofs.blocks.BlocksLayout.number.Goals as goal

pub overflow_mul-result : goal.overflow_mul-result
overflow_mul-result c = let b = c.args.self.now in
    let low : c.args.range * c.width.result + c.args.index < b.limit = subst (λ w. c.args.range * w + c.args.index < b.limit) (sym c.width.ensures.0) (block_below b.limit b.ranges b.few.1 c.args.range c.args.index c.requires) in
    let few = b.few.0 in record { fits = omega arith }

pub overflow_add-result : goal.overflow_add-result
overflow_add-result c = let b = c.args.self.now in
    let low : c.args.range * c.width.result + c.args.index < b.limit = subst (λ w. c.args.range * w + c.args.index < b.limit) (sym c.width.ensures.0) (block_below b.limit b.ranges b.few.1 c.args.range c.args.index c.requires) in
    let few = b.few.0 in record { fits = omega arith }
