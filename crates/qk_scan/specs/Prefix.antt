-- The answers that a scan gives.
use Rattle.std.specs.Prelude.{ℕ, zero, suc, Bool, cond, List, [], ◌∷◌}

module _ {A : Type 0} where
  -- the answers up to and including the first that hits, or all where none hits
  abbrev pub prefix_to_hit : (A → Bool) → List A → List A
  prefix_to_hit hits [] = []
  prefix_to_hit hits (x ∷ xs) = x ∷ cond (hits x) [] (prefix_to_hit hits xs)

  -- the answers of that many jobs, from the number on
  abbrev pub answers_from : (ℕ → A) → ℕ → ℕ → List A
  answers_from answer from zero = []
  answers_from answer from (suc count) = answer from ∷ answers_from answer (suc from) count
