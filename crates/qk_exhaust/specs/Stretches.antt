-- Consecutive cases.
use Rattle.std.specs.Prelude.{ℕ}

-- so many cases, from the one of that number on
pub record Stretch (C : Type 0) : Type 0 where
  pub cases : C
  pub first : ℕ
  pub count : ℕ
