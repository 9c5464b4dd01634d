-- What is left of the number is sought among the halves that are left.
use Rattle.std.proofs.Common.{◌≡◌, ◌≤◌, ◌-◌, map}
use Rattle.qk_shrink.specs.Halves.{halves}
use Rattle.qk_shrink.specs.Numbers.{distances}
use Rattle.qk_shrink.specs.Sought.{sought}
use Rattle.qk_shrink.proofs.numbers.seek_distance.Given as goal

abbrev pub invariant-loop-half : goal.invariant-loop-half
invariant-loop-half l = record {
  within : l.half ≤ l.m;
  left : sought (map (λ half. l.m - half) (halves l.half)) l.left ≡ sought (distances l.m) l.k;
}

abbrev pub decreases-loop-half : goal.decreases-loop-half
decreases-loop-half l = l.half
