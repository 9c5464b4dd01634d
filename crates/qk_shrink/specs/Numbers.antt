-- The candidates of numbers and of truth values.
use Rattle.std.specs.Prelude.{ℕ, suc, ◌-◌, ◌^◌, ℤ, pos, negsuc, neg_ℤ, Bool, true, false, List, [], ◌∷◌, ◌++◌, map, nat_lt, if◌then◌else◌}
use Rattle.qk_shrink.specs.Halves.{halves}

-- how far from zero lie 0, m - m/2, m - m/4 and so on, while nearer than m
abbrev pub distances : ℕ → List ℕ
distances m = map (λ half. m - half) (halves m)

-- the opposite of -m, which the least number of 64 bits has not
abbrev pub opposite : ℕ → List ℤ
opposite m = if nat_lt m (2 ^ 63) then pos m ∷ [] else []

-- of a number below 0 first its opposite; then 0, the number less its half, less its quarter and so on, while nearer to zero
abbrev pub number_candidates : ℤ → List ℤ
number_candidates (pos m) = map pos (distances m)
number_candidates (negsuc m) = opposite (suc m) ++ map (λ d. neg_ℤ (pos d)) (distances (suc m))

abbrev pub truth_candidates : Bool → List Bool
truth_candidates true = false ∷ []
truth_candidates false = []
