use Rattle.std.proofs.Common.{◌≡◌, ◌+◌, ◌/◌, length, arith}
use Rattle.qk_shrink.specs.Halves.{halves}
use Rattle.qk_shrink.proofs.HalfLaws.{few_halves, halves_more}
use Rattle.qk_shrink.proofs.numbers.count_halves.Goals as goal

pub overflow_add-count : goal.overflow_add-count
overflow_add-count c = omega (arith, few_halves 64 c.args.m c.ranges.m.fits, c.loop-half.invariant)

pub loop-half-preserved : goal.loop-half-preserved
loop-half-preserved c =
    let first : length (halves c.loop-half.half) ≡ length (halves (c.loop-half.half / 2)) + 1 =
    rw (halves_more c.loop-half.half c.loop-half-test.true) (omega arith) in
    omega (arith, first, c.loop-half.invariant)

pub returns-clause-bounded : goal.returns-clause-bounded
returns-clause-bounded c = omega (arith, few_halves 64 c.args.m c.ranges.m.fits, c.loop-half.invariant)
