-- The rule of a claim board, over its words and the views of its seats.
-- Word 0 is the bound. Word r + 1 is the claim word of range r.
use Rattle.std.specs.Prelude.{◌≡◌, ℕ, ◌+◌, ◌-◌, ◌<◌, ◌≤◌, min, ◌⊎◌, List, length, slice_index}
use mathlib.Core.Option.{some}
use lib.ListN.{get_elem?}
use Rattle.qk_totals.specs.Totals.{total, EachBelow}
use Rattle.qk_board.specs.declared.view.BoardView.{BoardView}
use Rattle.qk_board.specs.Views.{length_at, draws_of, dries_of, lowers_of, sights_of, parts_of, IsEmptyView}

-- b is the least of the limit and of the numbers that f counts
abbrev pub IsLeast : ℕ → (ℕ → ℕ) → ℕ → Type 0
IsLeast limit f b = (b ≤ limit) × ((n : ℕ) → 0 < f n → b ≤ n) × ((b ≡ limit) ⊎ (0 < f b))

-- What holds between any two steps. A seat that stands for no seat is spent.
pub record Kept (limit seats : ℕ) (lengths words : List ℕ) (views : List BoardView) : Type 0 where
  pub shape : length words ≡ length lengths + 1
  -- the draws of range r over all seats are the indexes below min(word, length), each once
  pub draws : (r : ℕ) → EachBelow (min (slice_index words (r + 1)) (length_at lengths r)) (λ x. total (draws_of r x) views)
  -- the dry entries of range r are the claims past its length, and a seat has at most as many as it stands for seats
  pub dries : (r : ℕ) → total (dries_of r) views ≡ slice_index words (r + 1) - length_at lengths r
  pub dries_within : (id : ℕ) (v : BoardView) → get_elem? views id ≡ some v → (r : ℕ) → dries_of r v ≤ v.parts
  -- the bound word is the least of the limit and all lowered numbers
  pub bound : IsLeast limit (λ n. total (lowers_of n) views) (slice_index words 0)
  -- each bound that a seat saw is the limit or a lowered number, and is at least the bound word
  pub seen : (n : ℕ) → 0 < total (sights_of n) views → (slice_index words 0 ≤ n) × ((n ≡ limit) ⊎ (0 < total (lowers_of n) views))
  -- together the seats stand for the number of seats that was given to make
  pub parts : total parts_of views ≡ seats
  pub idle : (id : ℕ) (v : BoardView) → get_elem? views id ≡ some v → v.parts ≡ 0 → IsEmptyView v
  -- all seats have one limit and the same lengths
  pub same : (id : ℕ) (v : BoardView) → get_elem? views id ≡ some v → 0 < v.parts → (v.limit ≡ limit) × (v.lengths ≡ lengths)
