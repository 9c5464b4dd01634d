use Rattle.std.proofs.Common.{length, arith, ap}
use Rattle.qk_shrink.proofs.PlaceLaws.{own_end}
use Rattle.qk_shrink.proofs.fields.count_own.Goals as goal

pub returns-clause-count : goal.returns-clause-count
returns-clause-count c =
    let none = own_end c.args.kind c.loop-i.i c.args.types.now c.args.parts.now (omega (arith, c.min-shared.ensures, c.loop-i-test.false)) in
    omega (arith, ap length none, c.loop-i.invariant.whole)
