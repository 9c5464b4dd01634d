-- The ways so far and those of the binders that are left make all.
use Rattle.std.proofs.Common.{◌≡◌, ◌++◌, map, drop}
use Rattle.qk_shrink.specs.Spreads.{ways_of}
use Rattle.qk_shrink.specs.SpreadsView.{view_way}
use Rattle.qk_shrink.proofs.spread.all_ways.Given as goal

abbrev pub invariant-loop-i : goal.invariant-loop-i
invariant-loop-i l = map view_way l.ways.items ++ ways_of l.core (drop l.i l.binders) (drop l.i l.values) l.fuel ≡ ways_of l.core l.binders l.values l.fuel
