-- A slot for each number, with its answer once it is known.
use Rattle.std.specs.Prelude.{◌≡◌, ℕ, ◌<◌, Bool, List, length, Option, None, IfSome, IsSome, slice_index_or}
use Rattle.qk_board.specs.declared.board.Board.{Board}
use Rattle.qk_board.specs.declared.layout.Layout.{Ghosts}
use Rattle.qk_board.specs.declared.seat.BoardSeat.{BoardSeat}
use Rattle.qk_board.specs.declared.view.BoardView.{BoardView}
use Rattle.qk_board.specs.Seats.{view_of}
use Rattle.qk_scan.specs.Crew.{IsSeatOn}
use Rattle.qk_scan.specs.Work.{performed, hit_numbers, answered, MetAllDry}

module _ {A : Type 0} where
  -- what a slot has is the answer of its number
  abbrev pub AreRight : (ℕ → A) → List (Option A) → Type 0
  AreRight answer slots = (n : ℕ) → IfSome (slice_index_or slots n None) (λ a. a ≡ answer n)

  abbrev pub IsFilled : List (Option A) → ℕ → Type 0
  IsFilled slots n = IsSome (slice_index_or slots n None)

-- a view of a worker that is done
abbrev pub Done : {A : Type 0} → List ℕ → (ℕ → ℕ → ℕ) → (ℕ → A) → (A → Bool) → BoardView → Type 0
Done lengths number answer hits v = (length v.draws ≡ length v.seen) × MetAllDry lengths v × (v.lowered ≡ hit_numbers hits (performed number answer v.draws v.seen))

-- a seat whose worker is done, and whose answers are in their slots
abbrev pub IsSettled : {L A : Type 0} {met : Ghosts L} → Board L met → (ℕ → A) → (A → Bool) → List (Option A) → BoardSeat → Type 0
IsSettled {met = met} b answer hits slots s = IsSeatOn b s × Done (met.lengths_of b.layout) (met.number_of b.layout) answer hits (view_of s)
    × ((n : ℕ) → n < length slots → 0 < answered n (performed (met.number_of b.layout) answer (view_of s).draws (view_of s).seen) → IsFilled slots n)
