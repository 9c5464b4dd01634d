-- The counts of the values of user types: a row for each depth, with a count for each type.
use Rattle.std.specs.Prelude.{◌≡◌, ℕ, ◌<◌, List, [], length, get_or}
use Rattle.qk_value.specs.Kinds.{KindData}
use Rattle.qk_value.specs.Types.{made_type}
use Rattle.qk_series.specs.Members.{saturated}
use Rattle.qk_series.specs.Series.{series}

-- the counts of the values at one depth
abbrev pub IsRow : List KindData → ℕ → List ℕ → Type 0
IsRow kinds d row = (k : ℕ) → get_or row k 0 ≡ saturated (length (series kinds d (made_type k)))

abbrev pub AreRows : List KindData → List (List ℕ) → Type 0
AreRows kinds rows = (d : ℕ) → d < length rows → IsRow kinds d (get_or rows d [])
