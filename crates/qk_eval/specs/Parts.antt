-- What operators and patterns see of a value. A value of another type counts as 0, false or the empty list, which no checked program meets.
use Rattle.std.specs.Prelude.{ℕ, suc, ℤ, pos, Bool, true, false, ◌&&◌, nat_eq, nat_lt, List, [], ◌∷◌, Result, Ok, Err, if◌then◌else◌}
use Rattle.qk_base.specs.declared.outcome.Cause.{Cause}
use Rattle.qk_base.specs.declared.outcome.Cause.TheVariants.{Weight, Depth}
use Rattle.qk_core.specs.declared.expr.Pattern.{Pattern}
use Rattle.qk_core.specs.declared.expr.Pattern.TheVariants as patterns
use Rattle.qk_value.specs.Data.{Data, int, bool, list, pair, made, Datas, end, more, listed_data}
use Rattle.qk_value.specs.Measures.{weight, depth}

abbrev pub number_of : Data → ℤ
number_of (int n) = n
number_of (bool b) = pos 0
number_of (list ds) = pos 0
number_of (pair a b) = pos 0
number_of (made k m ds) = pos 0

abbrev pub truth_of : Data → Bool
truth_of (bool b) = b
truth_of (int n) = false
truth_of (list ds) = false
truth_of (pair a b) = false
truth_of (made k m ds) = false

abbrev pub items_of : Data → Datas
items_of (list ds) = ds
items_of (int n) = end
items_of (bool b) = end
items_of (pair a b) = end
items_of (made k m ds) = end

abbrev pub is_list : Data → Bool
is_list (list ds) = true
is_list (int n) = false
is_list (bool b) = false
is_list (pair a b) = false
is_list (made k m ds) = false

-- how many
abbrev pub count : Datas → ℕ
count end = 0
count (more d ds) = suc (count ds)

-- one list and then another
abbrev pub joined : Datas → Datas → Datas
joined end es = es
joined (more d ds) es = more d (joined ds es)

-- a list with that item before another list's
abbrev pub before : Data → Data → Data
before d rest = list (more d (items_of rest))

-- what a pattern of a value's form adds to the environment, in order
abbrev pub list_parts : Datas → List Data
list_parts end = []
list_parts (more d ds) = d ∷ list ds ∷ []

abbrev pub parts_of : Data → List Data
parts_of (list ds) = list_parts ds
parts_of (pair a b) = a ∷ b ∷ []
parts_of (made k m ds) = listed_data ds
parts_of (int n) = []
parts_of (bool b) = []

-- whether a pattern takes a value
abbrev pub fits : Pattern → Data → Bool
fits patterns.Nil (list end) = true
fits patterns.Cons (list (more d ds)) = true
fits patterns.Pair (pair a b) = true
fits (patterns.Maker kind maker) (made k m ds) = nat_eq k kind && nat_eq m maker
fits p d = false

-- a new value, unless it is too heavy, or else too deep
abbrev pub small : Data → Result Data Cause
small d = if nat_lt 65536 (weight d) then Err Weight else if nat_lt 200 (depth d) then Err Depth else Ok d
