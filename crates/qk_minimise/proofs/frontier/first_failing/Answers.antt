use Rattle.std.proofs.Common.{◌≡◌, ◌+◌, ◌≤◌, length, sym, ◌∙◌, arith}
use Rattle.qk_minimise.proofs.Frontiers.{first_begins, first_found, first_goes_on}
use Rattle.qk_minimise.proofs.frontier.first_failing.Goals as goal

pub loop-first-init : goal.loop-first-init
loop-first-init g c = record {
  within = omega arith;
  sizes = (omega arith, omega arith);
  so_far = first_begins (g.F.Family.failing c.args.family.now) (g.F.Family.listed c.args.family.now c.args.spread.now);
}

pub returns-then-is_some : goal.returns-then-is_some
returns-then-is_some g c =
    let failing = g.F.Family.failing c.args.family.now in
    let listed = g.F.Family.listed c.args.family.now c.args.spread.now in
    first_found failing listed c.loop-first.first c.min-size.result c.in_ok-place.place c.loop-first.invariant.so_far c.in_ok-place.ensures (sym c.is_some.ensures ∙ c.if-is_some.true)

pub loop-first-preserved : goal.loop-first-preserved
loop-first-preserved g c =
    let failing = g.F.Family.failing c.args.family.now in
    let listed = g.F.Family.listed c.args.family.now c.args.spread.now in
    let counted : c.count-count.result ≡ length listed = c.count-count.ensures.count in
    let goes : c.loop-first.first + c.min-size.result ≤ c.count-count.result = omega arith in
    record {
      within = goes;
      sizes = (omega (arith, c.loop-first.invariant.sizes.0), omega arith);
      so_far = first_goes_on failing listed c.loop-first.first c.min-size.result c.in_ok-place.place (omega (arith, goes, counted)) c.loop-first.invariant.so_far c.in_ok-place.ensures (sym c.is_some.ensures ∙ c.if-is_some.false);
    }
