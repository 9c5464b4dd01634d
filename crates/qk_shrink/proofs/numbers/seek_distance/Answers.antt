use Rattle.std.proofs.Common.{◌∙◌, ◌-◌, ◌/◌, map, arith, ap, sym}
use Rattle.qk_shrink.specs.Halves.{halves}
use Rattle.qk_shrink.specs.Sought.{sought}
use Rattle.qk_shrink.proofs.HalfLaws.{halves_more}
use Rattle.qk_shrink.proofs.SoughtLaws.{one_less}
use Rattle.qk_shrink.proofs.numbers.seek_distance.Goals as goal

pub loop-half-preserved : goal.loop-half-preserved
loop-half-preserved c =
    let first = halves_more c.loop-half.half c.loop-half-test.true in
    record {
      within = omega (arith, c.loop-half.invariant.within);
      left = one_less (λ half. c.args.m - half) c.loop-half.half (halves (c.loop-half.half / 2)) c.loop-half.left c.if-left-eq0.false
          ∙ ap (λ hs. sought (map (λ half. c.args.m - half) hs) c.loop-half.left) (sym first) ∙ c.loop-half.invariant.left;
    }
