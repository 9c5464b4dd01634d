use Rattle.std.proofs.Common.{rules, arith, ◌≡◌, ◌<◌, length, sym, subst, ap, ◌∙◌}
use Rattle.qk_board.specs.Seats.{view_of}
use Rattle.qk_scan.specs.Work.{place}
use Rattle.qk_scan.proofs.Order.{place_next, place_round, one_more, drained}
use Rattle.qk_scan.proofs.working.work.Goals as goal
use Rattle.qk_scan.proofs.working.work.Goals.{then-range-ranges, else-range-ranges}

pub loop-done-preserved : goal.loop-done-preserved
loop-done-preserved g c =
    let inv = c.loop-done.invariant in let first = c.args.first in let ranges = c.ranges-ranges.result in let r = c.loop-done.range in let k = c.loop-done.done in
    let wide : ranges ≡ length (g.L.Layout.lengths_of c.args.board.now.layout) = c.ranges-ranges.ensures.0 ∙ ap (λ l. length (g.L.Layout.lengths_of l)) c.layout.ensures in
    let low : first < ranges = subst (λ n. first < n) (sym wide) c.requires.first in
    let at = inv.stands (omega arith) in
    let now = drained first ranges low r k (view_of c.loop-done.seat).draws (view_of c.drain.new.seat).draws at c.in_ok-drain.ensures.drew inv.order inv.before in
    record {
      in_range = (elim c.if-range-ranges.branch [ then-range-ranges w ↦ omega (arith, inv.in_range.0) | else-range-ranges w ↦ omega (arith, inv.in_range.0) ], omega arith);
      stands = λ more. elim c.if-range-ranges.branch [
        | then-range-ranges w ↦ ap (place first ranges) w.range-is ∙ place_round first ranges low r k inv.in_range.0 at more (search rules)
        | else-range-ranges w ↦ ap (place first ranges) w.range-is ∙ place_next first ranges low r k inv.in_range.0 at more (search rules)
      ];
      seat = c.drain.ensures.seat;
      worked = c.in_ok-drain.ensures.worked;
      dry = one_more first ranges low r k (view_of c.loop-done.seat).dry (view_of c.drain.new.seat).dry inv.in_range.0 at c.in_ok-drain.ensures.dry inv.dry;
      order = now.0;
      before = now.1;
    }
