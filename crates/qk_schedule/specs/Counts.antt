-- What a run has counted.
use Rattle.std.specs.Prelude.{ℕ, ◌+◌, Bool, List, [], ◌∷◌, if◌then◌else◌}

-- the successes, the discards, the discards since the last success, and for each cover clause the attempts that it covered
pub record Counts : Type 0 where
  pub successes : ℕ
  pub discards : ℕ
  pub recent : ℕ
  pub covers : List ℕ

-- one more attempt at each cover that is true
abbrev pub raised : List ℕ → List Bool → List ℕ
raised [] covers = []
raised (count ∷ counts) [] = count ∷ counts
raised (count ∷ counts) (cover ∷ covers) = (count + (if cover then 1 else 0)) ∷ raised counts covers
