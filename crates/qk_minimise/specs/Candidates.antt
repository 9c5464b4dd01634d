-- Candidates by number.
use Rattle.std.specs.Prelude.{ℕ, Bool, false, Some, None, List, slice_get}

-- whether the k-th point fails; past the end none does
abbrev pub fails_at : {P : Type 0} → (P → Bool) → List P → ℕ → Bool
fails_at failing points k = elim (slice_get points k) [
  | None ↦ false
  | Some point ↦ failing point
]

-- `count` candidates of a spread of a family, from the one of number `first` on
pub record Candidates (F S : Type 0) : Type 0 where
  pub family : F
  pub spread : S
  pub first : ℕ
  pub count : ℕ
