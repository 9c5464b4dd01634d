use Rattle.std.proofs.Common.{◌∙◌, length, ap, arith}
use Rattle.std.proofs.lemmas.List.{length-map}
use Rattle.qk_series.proofs.counts.Counts.make.Goals as goal

pub loop-init : goal.loop-init
loop-init c = record { kinds = c.kinds.ensures; depths = ap length c.new.ensures.items; right = λ d less. absurd (omega (arith, less, ap length c.new.ensures.items, length-map c.new.result.items (λ r. r.items))) }

pub invariant_of-counts : goal.invariant_of-counts
invariant_of-counts c = record { few = omega (arith, c.loop.invariant.depths, c.loop-test.true, c.requires); right = c.loop.invariant.right }

pub with_next-requires : goal.with_next-requires
with_next-requires c = omega (arith, c.loop.invariant.depths, c.loop-test.true, c.requires)

pub loop-preserved : goal.loop-preserved
loop-preserved c = record {
  kinds = c.in_ok-counts.ensures.kinds ∙ c.loop.invariant.kinds;
  depths = c.in_ok-counts.ensures.depths ∙ omega (arith, c.loop.invariant.depths);
  right = c.in_ok-counts.counts.right;
}

pub invariant_of-counts-2 : goal.invariant_of-counts-2
invariant_of-counts-2 c = record { few = omega (arith, c.loop.invariant.depths, c.loop.auto.counter-end, c.requires); right = c.loop.invariant.right }

pub returns-clause-kinds : goal.returns-clause-kinds
returns-clause-kinds c = c.loop.invariant.kinds

pub returns-clause-depths : goal.returns-clause-depths
returns-clause-depths c = omega (arith, c.loop.invariant.depths, c.loop.auto.counter-end, c.loop-test.false)
