-- Prefixes of paths, and what the path words hold.
use Rattle.std.specs.Prelude.{◌≡◌, ℕ, zero, suc, ◌-◌, cond, nat_eq, List, [], ◌∷◌, length}

abbrev pub IsPrefix : List ℕ → List ℕ → Type 0
IsPrefix [] ys = Unit {0}
IsPrefix (x ∷ xs) [] = ⊥
IsPrefix (x ∷ xs) (y ∷ ys) = (x ≡ y) × IsPrefix xs ys

abbrev pub AllPrefixes : List (List ℕ) → List ℕ → Type 0
AllPrefixes [] ys = Unit {0}
AllPrefixes (xs ∷ xss) ys = IsPrefix xs ys × AllPrefixes xss ys

-- what the path word of level e holds: 0 where no step was taken there, and else one more than the step
abbrev pub path_word : List ℕ → ℕ → ℕ
path_word [] e = 0
path_word (x ∷ xs) zero = suc x
path_word (x ∷ xs) (suc e) = path_word xs e

-- the longer of two lists
abbrev pub longer : List ℕ → List ℕ → List ℕ
longer xs ys = cond (nat_eq (length xs - length ys) 0) ys xs
