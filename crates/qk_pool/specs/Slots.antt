-- Answers in their places.
use Rattle.std.specs.Prelude.{ℕ, suc, List, [], ◌∷◌, Option, None, IfSome, IsSome, slice_index_or, ⊤}

module _ {A : Type 0} where
  -- what a slot has is right for its number
  abbrev pub AreRight : (ℕ → A → Type 0) → List (Option A) → Type 0
  AreRight right slots = (n : ℕ) → IfSome (slice_index_or slots n None) (λ a. right n a)

  abbrev pub IsFilled : List (Option A) → ℕ → Type 0
  IsFilled slots n = IsSome (slice_index_or slots n None)

  -- each is right for its place, counted from k on
  abbrev pub InPlace : (ℕ → A → Type 0) → ℕ → List A → Type 0
  InPlace right k [] = ⊤
  InPlace right k (a ∷ rest) = right k a × InPlace right (suc k) rest
