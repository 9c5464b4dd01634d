-- Places in the list of files in memory.
use Rattle.std.specs.Prelude.{ℕ, ◌≡◌, ◌<◌, length, List, [], drop, Option, Some, slice_get, option_map, option_and_then, unwrap_or}
use Rattle.qk_base.specs.Shelf.{File}

-- the bytes of the file at a place
abbrev pub bytes_at : List File → Option ℕ → Option (List ℕ)
bytes_at files place = option_map (λ f. f.bytes) (option_and_then (slice_get files) place)

-- the bytes that are left of the file at a place
abbrev pub rest_at : List File → Option ℕ → ℕ → List ℕ
rest_at files place at = drop at (unwrap_or (bytes_at files place) [])

-- a place, if there is one, is that of a file
abbrev pub IsWithin : List File → Option ℕ → Type 0
IsWithin files place = (i : ℕ) → place ≡ Some i → i < length files
