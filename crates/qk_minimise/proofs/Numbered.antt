-- Lists that are given by number.
use Rattle.std.proofs.Common.{◌≡◌, ℕ, ◌<◌, Some, length, map, slice_get, ◌∙◌, ap, zero-add}
use Rattle.std.specs.List.{range_with_len}
use Rattle.std.proofs.lemmas.Option.{slice_get-get_or}
use Rattle.std.proofs.lemmas.List.FromFn.{length-range_with_len, get_or-range_with_len, length-map-range_with_len, get_or-map-range_with_len}

pub range_at : (n k : ℕ) → k < length (range_with_len 0 n) → slice_get (range_with_len 0 n) k ≡ Some k
range_at n k h =
    let low : k < n = rw length-range_with_len at h in
    slice_get-get_or (range_with_len 0 n) k 0 h ∙ ap Some (get_or-range_with_len 0 n k 0 low ∙ zero-add k)

pub map_at : (f : ℕ → ℕ) (n k : ℕ) → k < length (map f (range_with_len 0 n)) → slice_get (map f (range_with_len 0 n)) k ≡ Some (f k)
map_at f n k h =
    let low : k < n = rw length-map-range_with_len at h in
    slice_get-get_or (map f (range_with_len 0 n)) k 0 h ∙ ap Some (get_or-map-range_with_len f 0 n k k 0 low (zero-add k))
