-- What contracts see of a gate that forces an order.
use Rattle.std.specs.Prelude.{ℕ, Bool, true, false, cond, nat_eq, List, [], ◌∷◌}

abbrev pub differs_from_each : ℕ → List ℕ → Bool
differs_from_each x [] = true
differs_from_each x (y ∷ ys) = cond (nat_eq x y) false (differs_from_each x ys)

-- no number stands twice
abbrev pub all_different : List ℕ → Bool
all_different [] = true
all_different (x ∷ xs) = cond (differs_from_each x xs) (all_different xs) false

-- the numbers whose first entries are let in one after another, and how many loads an entry waits
pub record Order : Type 0 where
  pub order : List ℕ
  pub turns : ℕ
