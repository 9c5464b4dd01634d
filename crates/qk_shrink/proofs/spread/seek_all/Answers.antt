use Rattle.std.proofs.Common.{◌∙◌, ◌+◌, map, drop, sym, ap, arith}
use Rattle.qk_shrink.specs.Sought.{sought, map_sought}
use Rattle.qk_shrink.specs.Spreads.{in_turn, way_candidates}
use Rattle.qk_shrink.specs.SpreadsView.{view_way}
use Rattle.qk_shrink.proofs.TurnLaws.{behind, turn_here, turn_past, turn_next, turn_end}
use Rattle.qk_shrink.proofs.spread.seek_all.Goals as goal

pub returns-in-Here : goal.returns-in-Here
returns-in-Here c =
    let kinds = c.args.kinds.now in
    let ways = c.args.ways.now in
    let values = c.args.values.now in
    let i = c.loop-i.i in
    let way = c.index-ways-i.result in
    let value = c.index-values-i.result in
    turn_here values c.in_ok-values-in-Here.values.items i value c.in-Here.value (way_candidates kinds (view_way way) value)
    (in_turn kinds (map view_way (drop (i + 1) ways)) (drop (i + 1) values))
    (in_turn kinds (map view_way (drop i ways)) (drop i values)) c.loop-i.left c.in_ok-value.field-0 c.in_ok-values-in-Here.ensures c.in-Here.is c.in_ok-value.ensures
    (turn_next kinds ways values i way value (omega (arith, c.min-shared.ensures, c.loop-i-test.true)) (omega (arith, c.min-shared.ensures, c.loop-i-test.true)) c.index-ways-i.is c.index-values-i.is)
    ∙ c.loop-i.invariant

pub loop-i-preserved : goal.loop-i-preserved
loop-i-preserved c =
    let kinds = c.args.kinds.now in
    let ways = c.args.ways.now in
    let values = c.args.values.now in
    let i = c.loop-i.i in
    let way = c.index-ways-i.result in
    let value = c.index-values-i.result in
    turn_past values i value (way_candidates kinds (view_way way) value)
    (in_turn kinds (map view_way (drop (i + 1) ways)) (drop (i + 1) values))
    (in_turn kinds (map view_way (drop i ways)) (drop i values)) c.loop-i.left c.in-Past.rest c.in_ok-value.field-0
    (omega (arith, c.min-shared.ensures, c.loop-i-test.true)) c.index-values-i.is c.in-Past.is c.in_ok-value.ensures
    (turn_next kinds ways values i way value (omega (arith, c.min-shared.ensures, c.loop-i-test.true)) (omega (arith, c.min-shared.ensures, c.loop-i-test.true)) c.index-ways-i.is c.index-values-i.is)
    ∙ c.loop-i.invariant

pub returns : goal.returns
returns c =
    let before = behind c.args.values.now c.loop-i.i in
    let none = turn_end c.args.kinds.now c.loop-i.i c.args.ways.now c.args.values.now (omega (arith, c.min-shared.ensures, c.loop-i-test.false)) in
    ap (λ l. map_sought before (sought l c.loop-i.left)) (sym none) ∙ c.loop-i.invariant
