-- How large a value is.
use Rattle.std.specs.Prelude.{ℕ, ◌+◌, ◌≤◌, max}
use Rattle.qk_value.specs.Data.{Data, int, bool, list, pair, made, Datas, end, more}

-- one for the value, and the weights of its parts
abbrev mutual
  pub weight : Data → ℕ
  weight (int n) = 1
  weight (bool b) = 1
  weight (list ds) = weights ds + 1
  weight (pair a b) = weight a + weight b + 1
  weight (made k m ds) = weights ds + 1

  pub weights : Datas → ℕ
  weights end = 0
  weights (more d ds) = weight d + weights ds

-- how deep parts nest
abbrev mutual
  pub depth : Data → ℕ
  depth (int n) = 1
  depth (bool b) = 1
  depth (list ds) = depths ds + 1
  depth (pair a b) = max (depth a) (depth b) + 1
  depth (made k m ds) = depths ds + 1

  pub depths : Datas → ℕ
  depths end = 0
  depths (more d ds) = max (depth d) (depths ds)

-- the values that a run works with
abbrev pub IsSmall : Data → Type 0
IsSmall d = (weight d ≤ 65536) × (depth d ≤ 200)
