-- Sums over views, and how often a number stands in a list.
use Rattle.std.specs.Prelude.{◌≡◌, ℕ, ◌+◌, ◌<◌, ◌≤◌, cond, nat_eq, List, [], ◌∷◌}

-- f of each, added up
abbrev pub total : {V : Type 0} → (V → ℕ) → List V → ℕ
total f [] = 0
total f (v ∷ vs) = f v + total f vs

-- how often x stands in the list
abbrev pub times : ℕ → List ℕ → ℕ
times x [] = 0
times x (y ∷ ys) = cond (nat_eq y x) 1 0 + times x ys

-- how often the pair of r and x stands in the list
abbrev pub drawn : ℕ → ℕ → List (ℕ × ℕ) → ℕ
drawn r x [] = 0
drawn r x (d ∷ ds) = cond (nat_eq d.0 r) (cond (nat_eq d.1 x) 1 0) 0 + drawn r x ds

-- f counts the numbers below n, each once, and no others
abbrev pub EachBelow : ℕ → (ℕ → ℕ) → Type 0
EachBelow n f = (x : ℕ) → (x < n → f x ≡ 1) × (n ≤ x → f x ≡ 0)
