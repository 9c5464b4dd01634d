use Rattle.std.proofs.Common.{length, arith, ap}
use Rattle.qk_shrink.proofs.TurnLaws.{plain_end}
use Rattle.qk_shrink.proofs.spread.count_all.Goals as goal

pub returns-clause-count : goal.returns-clause-count
returns-clause-count c =
    let none = plain_end c.args.kinds.now c.loop-i.i c.args.ways.now c.args.values.now (omega (arith, c.min-shared.ensures, c.loop-i-test.false)) in
    omega (arith, ap length none, c.loop-i.invariant.whole)
