-- A number, its half, its quarter and so on.
use Rattle.std.specs.Prelude.{ℕ, zero, suc, ◌/◌, List, [], ◌∷◌}

-- n, n/2, n/4 and so on by whole divisions, while above 0; at most so many
abbrev pub halves_within : ℕ → ℕ → List ℕ
halves_within zero n = []
halves_within (suc most) zero = []
halves_within (suc most) (suc n) = suc n ∷ halves_within most (suc n / 2)

-- all of them: each is less than the one before, so that there are at most n
abbrev pub halves : ℕ → List ℕ
halves n = halves_within n n
