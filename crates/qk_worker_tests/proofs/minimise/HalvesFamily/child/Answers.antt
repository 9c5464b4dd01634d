use Rattle.std.proofs.Common.{◌+◌, ◌-◌, ◌/◌, ◌^◌, min, arith}
use Rattle.std.proofs.lemmas.List.FromFn.{length-map-range_with_len}
use Rattle.qk_minimise.proofs.Numbered.{map_at}
use Rattle.qk_worker_tests.proofs.minimise.HalvesFamily.child.Goals as goal

pub returns : goal.returns
returns c =
    let x = c.args.spread.now in
    map_at (λ k. x - x / 2 ^ k) (min x 1 + min (x / 2) 1 + min (x / 4) 1 + min (x / 8) 1 + min (x / 16) 1) c.args.k c.requires

pub overflow_shr-result : goal.overflow_shr-result
overflow_shr-result c =
    let few = rw length-map-range_with_len at c.requires in
    omega (arith, few)
