-- What is prepared of a point's candidates.
use Rattle.std.specs.Prelude.{ℕ, List, [], map, Option, Some, None}
use Rattle.qk_command.specs.Drawing.{DrawnValues}
use Rattle.qk_shrink.specs.Spreads.{SpreadData, spread_over}
use Rattle.qk_value.specs.Data.{Data}
use Rattle.qk_property.specs.Points.{with_values}

-- the points that it stands for
abbrev pub listed_of : Option SpreadData → List Data → List DrawnValues
listed_of None xs = []
listed_of (Some s) xs = map with_values (spread_over s xs)

-- the number that is kept of them
abbrev pub count_kept : Option SpreadData → ℕ
count_kept None = 0
count_kept (Some s) = s.count
