use Rattle.std.proofs.Common.{◌+◌, ◌-◌, ◌/◌, ◌^◌, min, sym}
use Rattle.std.proofs.lemmas.List.FromFn.{length-map-range_with_len}
use Rattle.qk_worker_tests.proofs.minimise.HalvesFamily.count.Goals as goal

pub returns-clause-count : goal.returns-clause-count
returns-clause-count c =
    let x = c.args.spread.now in
    let all = c.min.ensures in
    rw (c.min.ensures, c.min-2.ensures, c.min-3.ensures, c.min-4.ensures, c.min-5.ensures) (sym (length-map-range_with_len (λ k. x - x / 2 ^ k) 0 (min x 1 + min (x / 2) 1 + min (x / 4) 1 + min (x / 8) 1 + min (x / 16) 1)))
