-- A number of an interval from a word.
use Rattle.std.specs.Prelude.{ℕ, ℤ, pos, ◌^◌, ◌+ℤ◌, ◌-ℤ◌, ◌*ℤ◌, int_div}

-- the word's place among the 2 ^ 64 words, as a place in lo to hi
unfoldable pub pick : ℕ → ℤ → ℤ → ℤ
pick w lo hi = lo +ℤ int_div (pos w *ℤ ((hi -ℤ lo) +ℤ pos 1)) (pos (2 ^ 64))
