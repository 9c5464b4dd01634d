-- Lists by their first item, and values that a run works with.
use Rattle.std.specs.Prelude.{nat_lt, Result, Ok, Err, if◌then◌else◌}
use Rattle.qk_base.specs.declared.outcome.Cause.{Cause}
use Rattle.qk_base.specs.declared.outcome.Cause.TheVariants.{Weight, Depth}
use Rattle.qk_value.specs.Data.{Data, int, bool, list, pair, made, Datas, end, more}
use Rattle.qk_value.specs.Measures.{weight, depth}

abbrev pub items_of : Data → Datas
items_of (list ds) = ds
items_of (int n) = end
items_of (bool b) = end
items_of (pair a b) = end
items_of (made k m ds) = end

-- a list with that item before another list's
abbrev pub before : Data → Data → Data
before d rest = list (more d (items_of rest))

-- a new value, unless it is too heavy, or else too deep
abbrev pub small : Data → Result Data Cause
small d = if nat_lt 65536 (weight d) then Err Weight else if nat_lt 200 (depth d) then Err Depth else Ok d
