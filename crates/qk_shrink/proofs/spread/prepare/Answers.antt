use Rattle.std.proofs.Common.{◌∙◌, length, map, ap}
use Rattle.qk_shrink.specs.Spreads.{in_turn, ways_of}
use Rattle.qk_shrink.specs.SpreadsView.{view_way}
use Rattle.qk_shrink.proofs.TurnLaws.{in_turn_are}
use Rattle.qk_shrink.proofs.spread.prepare.Goals as goal

pub returns-clause-listed : goal.returns-clause-listed
returns-clause-listed c =
    let core = c.args.core.now in
    let values = c.args.values.now in
    let ways = c.in_ok-ways.ensures ∙ (λ i. ways_of core (c.as_slice.ensures i) values c.args.fuel) in
    (λ i. in_turn (c.kinds-2.ensures i) (ways i) values) ∙ in_turn_are core c.args.binders.now.items values c.args.fuel

pub returns-clause-count : goal.returns-clause-count
returns-clause-count c =
    let core = c.args.core.now in
    let values = c.args.values.now in
    let ways = ap (map view_way) c.as_slice-2.ensures ∙ c.in_ok-ways.ensures
    ∙ (λ i. ways_of core (c.as_slice.ensures i) values c.args.fuel) in
    c.in_ok-count.ensures.count ∙ (λ i. length (in_turn (c.kinds.ensures i) (ways i) (c.requires.same i)))
    ∙ ap length (in_turn_are core c.args.binders.now.items values c.args.fuel)
