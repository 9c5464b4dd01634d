-- What is left of the number is sought among the candidates of what is left, with the values that are passed put before them.
use Rattle.std.proofs.Common.{◌≡◌, map, drop}
use Rattle.qk_shrink.specs.Sought.{sought, map_sought}
use Rattle.qk_shrink.specs.Spreads.{in_turn}
use Rattle.qk_shrink.specs.SpreadsView.{view_way}
use Rattle.qk_shrink.proofs.TurnLaws.{behind}
use Rattle.qk_shrink.proofs.spread.seek_all.Given as goal

abbrev pub invariant-loop-i : goal.invariant-loop-i
invariant-loop-i l =
    map_sought (behind l.values l.i) (sought (in_turn l.kinds (map view_way (drop l.i l.ways)) (drop l.i l.values)) l.left)
    ≡ sought (in_turn l.kinds (map view_way l.ways) l.values) l.k
