-- The halves so far and those that are left make all.
use Rattle.std.proofs.Common.{◌≡◌, ◌+◌, length}
use Rattle.qk_shrink.specs.Halves.{halves}
use Rattle.qk_shrink.proofs.numbers.count_halves.Given as goal

abbrev pub invariant-loop-half : goal.invariant-loop-half
invariant-loop-half l = l.count + length (halves l.half) ≡ length (halves l.m)

abbrev pub decreases-loop-half : goal.decreases-loop-half
decreases-loop-half l = l.half
