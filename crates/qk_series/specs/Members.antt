-- The members of a series, and how much of a weight they take.
use Rattle.std.specs.Prelude.{ℕ, ◌-◌, ◌^◌, pos, min, nat_le, List, Option, Some, None, option_map, get_or, Result, Ok, Err, if◌then◌else◌}
use Rattle.qk_value.specs.Data.{Data, Datas, int}
use Rattle.qk_value.specs.Kinds.{KindData}
use Rattle.qk_value.specs.Measures.{weight, weights}
use Rattle.qk_value.specs.Types.{TypeData}
use Rattle.qk_value.specs.View.{view_value, view_values}
use Rattle.qk_base.specs.declared.outcome.Cause.{Cause}
use Rattle.qk_series.specs.Series.{series}
use Rattle.qk_series.specs.declared.weighed.Weighed.{Weighed}
use Rattle.qk_series.specs.declared.weighed.WeighedParts.{WeighedParts}
use Rattle.qk_series.specs.declared.members.Enumerated.{Enumerated}
use Rattle.qk_series.specs.declared.members.Enumerated.TheVariants as enumerated

-- a count, or 2^40 where it is greater
abbrev pub saturated : ℕ → ℕ
saturated n = min n (2 ^ 40)

-- the member of that number, counted from 0
abbrev pub member : List KindData → ℕ → TypeData → ℕ → Data
member kinds d t k = get_or (series kinds d t) k (int (pos 0))

-- a value that is no heavier than that, with what it leaves of the weight
abbrev pub within : ℕ → Data → Option (Data × ℕ)
within left x = if nat_le (weight x) left then Some (x, left - weight x) else None

abbrev pub all_within : ℕ → Datas → Option (Datas × ℕ)
all_within left xs = if nat_le (weights xs) left then Some (xs, left - weights xs) else None

abbrev pub weighed_in : Option Weighed → Option (Data × ℕ)
weighed_in w = option_map (λ w. (view_value w.value, w.left)) w

abbrev pub parts_in : Option WeighedParts → Option (Datas × ℕ)
parts_in w = option_map (λ w. (view_values w.values.items, w.left)) w

-- the value, or why it is none that a run works with
abbrev pub enumerated_in : Enumerated → Result Data Cause
enumerated_in (enumerated.Value v) = Ok (view_value v)
enumerated_in (enumerated.Crash c) = Err c
