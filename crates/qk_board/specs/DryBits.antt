-- The bits that tell which ranges were claimed to their end.
use Rattle.std.specs.Prelude.{◌≡◌, ℕ, zero, suc, ◌+◌, ◌/◌, ◌%◌, ◌<◌, ◌≤◌, List, length, slice_index}
use Rattle.qk_board.specs.Views.{length_at}

-- the bit r of a number, counted from the lowest
abbrev pub bit : ℕ → ℕ → ℕ
bit zero d = d % 2
bit (suc r) d = bit r (d / 2)

-- the bit r of d is set exactly where the word of range r reached its length, for the ranges from low on, where bit 0 is that of low
abbrev pub TellsDry : List ℕ → List ℕ → ℕ → ℕ → Type 0
TellsDry lengths words low d = (r : ℕ) → low + r < length lengths → (bit r d ≡ 1 → length_at lengths (low + r) ≤ slice_index words (low + r + 1)) × (bit r d ≡ 0 → slice_index words (low + r + 1) < length_at lengths (low + r))
