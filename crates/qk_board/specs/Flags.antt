-- The flags of the ranges that a seat has met dry.
use Rattle.std.specs.Prelude.{◌≡◌, ℕ, ◌<◌, Bool, true, false, List, slice_index_or}
use Rattle.qk_totals.specs.Totals.{times}

-- a flag is set exactly where its range stands among the dry ones
abbrev pub Flagged : List Bool → List ℕ → Type 0
Flagged flags dry = (r : ℕ) → (slice_index_or flags r false ≡ true → 0 < times r dry) × (slice_index_or flags r false ≡ false → times r dry ≡ 0)
