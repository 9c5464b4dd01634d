-- A worker's seat and answers, once they are home.
use Rattle.std.proofs.Common.{◌≡◌, ℕ, ◌<◌, Bool, List, length, sym, ap, ◌∙◌, subst, Option}
use Rattle.qk_board.specs.declared.board.Board.{Board}
use Rattle.qk_board.specs.declared.layout.Layout.{Ghosts}
use Rattle.qk_board.specs.declared.seat.BoardSeat.{BoardSeat}
use Rattle.qk_board.specs.Seats.{view_of}
use Rattle.qk_scan.specs.declared.crew.Worker.{Worker}
use Rattle.qk_scan.specs.Crew.{IsDone}
use Rattle.qk_scan.specs.Slots.{IsFilled, IsSettled}
use Rattle.qk_scan.specs.Work.{hit_numbers, answered}

module _ {L A : Type 0} {met : Ghosts L} (b : Board L met) (answer : ℕ → A) (hits : A → Bool) where
  pub settled_stays : (old new : List (Option A)) → length new ≡ length old → ((n : ℕ) → IsFilled old n → IsFilled new n) → (s : BoardSeat) → IsSettled b answer hits old s → IsSettled b answer hits new s
  settled_stays old new len stays s h = (h.0, h.1, (λ n low a. stays n (h.2 n (subst (λ k. n < k) len low) a)))

  pub settled_now : (new : List (Option A)) (w : Worker A) → IsDone b answer hits w
      → ((n : ℕ) → n < length new → 0 < answered n w.found.items → IsFilled new n) → IsSettled b answer hits new w.seat
  settled_now new w done filled = (
    done.0,
    (done.1.loads, done.2, done.1.lowered_is ∙ ap (hit_numbers hits) done.1.found_is),
    (λ n low a. filled n low (subst (λ l. 0 < answered n l) (sym done.1.found_is) a)),
  )
