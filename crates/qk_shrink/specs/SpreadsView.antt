-- The data that the ways of a spread stand for.
use Rattle.qk_value.specs.View.{view_type}
use Rattle.qk_shrink.specs.Spreads.{WayData, by_type, listed}
use Rattle.qk_shrink.specs.declared.spread.Way.{Way}
use Rattle.qk_shrink.specs.declared.spread.Way.TheVariants as ways

abbrev pub view_way : Way → WayData
view_way (ways.ByType t) = by_type (view_type t.now)
view_way (ways.Listed s) = listed s.items
