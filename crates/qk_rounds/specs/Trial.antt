-- The numbers that a trial has prepared.
use Rattle.std.specs.Prelude.{◌≡◌, ℕ, ◌+◌, ◌<◌, ◌≤◌}

-- the `count` numbers from `first` on
pub record Range : Type 0 where
  pub first : ℕ
  pub count : ℕ

abbrev pub Includes : Range → ℕ → Type 0
Includes range number = (range.first ≤ number) × (number < range.first + range.count)

-- where numbers may be prepared from: 0 at first, and then from the first prepared number to one past the last
pub record MayPrepare (range : Range) (from : ℕ) : Type 0 where
  pub at_first : range.count ≡ 0 → from ≡ 0
  pub later : 0 < range.count → (range.first ≤ from) × (from ≤ range.first + range.count)
