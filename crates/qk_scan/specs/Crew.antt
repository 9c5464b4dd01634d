-- The workers of a scan, before and after.
use Rattle.std.specs.Prelude.{◌≡◌, ℕ, Bool, false, []}
use Rattle.qk_board.specs.declared.board.Board.{Board}
use Rattle.qk_board.specs.declared.layout.Layout.{Ghosts}
use Rattle.qk_board.specs.declared.seat.BoardSeat.{BoardSeat}
use Rattle.qk_board.specs.Views.{IsEmptyView}
use Rattle.qk_board.specs.Seats.{view_of, IsSeatOf}
use Rattle.qk_scan.specs.declared.crew.Worker.{Worker}
use Rattle.qk_scan.specs.Work.{Worked, MetAllDry}

module _ {L : Type 0} {met : Ghosts L} where
  -- a seat of that board
  abbrev pub IsSeatOn : Board L met → BoardSeat → Type 0
  IsSeatOn b s = IsSeatOf b.table.shared.table_id (met.limit_of b.layout) (met.lengths_of b.layout) s

  -- a worker that has made no step
  abbrev pub IsReady : {A : Type 0} → Board L met → Worker A → Type 0
  IsReady b w = IsSeatOn b w.seat × IsEmptyView (view_of w.seat) × (w.found.items ≡ [])

  -- a worker that has met every range dry
  abbrev pub IsDone : {A : Type 0} → Board L met → (ℕ → A) → (A → Bool) → Worker A → Type 0
  IsDone b answer hits w = IsSeatOn b w.seat × Worked (met.number_of b.layout) answer hits (view_of w.seat) w.found.items × MetAllDry (met.lengths_of b.layout) (view_of w.seat)

  -- a worker that has met every range dry, unless it wanted memory
  abbrev pub HasWorked : {A : Type 0} → Board L met → (ℕ → A) → (A → Bool) → Worker A → Type 0
  HasWorked b answer hits w = w.failed ≡ false → IsDone b answer hits w
