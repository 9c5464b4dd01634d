-- What a layout is, the strides and the blocks.
use Rattle.std.specs.Prelude.{◌≡◌, ℕ, zero, suc, ◌+◌, ◌-◌, ◌*◌, ◌/◌, ◌<◌, min, List, [], ◌∷◌, length, slice_index}

-- the numbers of all pairs of a range and an index below its length are those below the limit, each once
pub record IsLayout (limit : ℕ) (lengths : List ℕ) (number : ℕ → ℕ → ℕ) : Type 0 where
  pub below : (r i : ℕ) → i < slice_index lengths r → number r i < limit
  pub some : (n : ℕ) → n < limit → (r : ℕ) × (i : ℕ) × (r < length lengths) × (i < slice_index lengths r) × (number r i ≡ n)
  pub one : (r i q j : ℕ) → i < slice_index lengths r → j < slice_index lengths q → number r i ≡ number q j → (r ≡ q) × (i ≡ j)

-- f of that many numbers, from r on
abbrev pub table_of : (ℕ → ℕ) → ℕ → ℕ → List ℕ
table_of f r zero = []
table_of f r (suc k) = f r ∷ table_of f (suc r) k

-- how many numbers below the limit are r more than a multiple of the number of ranges, where r is below it
abbrev pub stride_length : ℕ → ℕ → ℕ → ℕ
stride_length limit ranges r = (limit + ranges - 1 - r) / ranges

abbrev pub stride_lengths : ℕ → ℕ → List ℕ
stride_lengths limit ranges = table_of (stride_length limit ranges) 0 ranges

-- the limit by the number of ranges, rounded up
abbrev pub block_width : ℕ → ℕ → ℕ
block_width limit ranges = (limit + ranges - 1) / ranges

-- a whole block, or what is left of the numbers below the limit
abbrev pub block_length : ℕ → ℕ → ℕ → ℕ
block_length limit ranges r = min (block_width limit ranges) (limit - r * block_width limit ranges)

abbrev pub block_lengths : ℕ → ℕ → List ℕ
block_lengths limit ranges = table_of (block_length limit ranges) 0 ranges
