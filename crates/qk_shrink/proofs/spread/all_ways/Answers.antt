use Rattle.std.proofs.Common.{◌∙◌, ◌++◌, map, sym, ap, arith, append-nil}
use Rattle.qk_shrink.specs.SpreadsView.{view_way}
use Rattle.qk_shrink.proofs.TurnLaws.{ways_end}
use Rattle.qk_shrink.proofs.spread.all_ways.Goals as goal

pub returns : goal.returns
returns c =
    let ways = map view_way c.loop-i.ways.items in
    let none = ways_end c.args.core.now c.args.fuel c.loop-i.i c.args.binders.now c.args.values.now (omega (arith, c.min-shared.ensures, c.loop-i-test.false)) in
    sym (append-nil ways) ∙ ap (λ rest. ways ++ rest) (sym none) ∙ c.loop-i.invariant
