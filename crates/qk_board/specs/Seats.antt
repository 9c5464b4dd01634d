-- What a seat of a board knows.
use Rattle.std.specs.Prelude.{◌≡◌, ℕ, ◌<◌, ◌≤◌, List, slice_index}
use Rattle.atomic_table.specs.Seated.{TableId}
use Rattle.qk_totals.specs.Totals.{drawn}
use Rattle.qk_board.specs.declared.view.BoardView.{BoardView}
use Rattle.qk_board.specs.declared.seat.BoardSeat.{BoardSeat}
use Rattle.qk_board.specs.declared.board.Claim.{Claim}
use Rattle.qk_board.specs.declared.board.Claim.TheVariants.{Number, Dry}
use Rattle.qk_board.specs.Views.{with_draw, with_dry}

abbrev pub view_of : BoardSeat → BoardView
view_of s = s.seat.me.0

-- the seat is one of the board with this table, limit and lengths
abbrev pub IsSeatOf : TableId → ℕ → List ℕ → BoardSeat → Type 0
IsSeatOf id limit lengths s = (s.seat.table_id ≡ id) × ((view_of s).limit ≡ limit) × ((view_of s).lengths ≡ lengths) × ((view_of s).parts ≡ 1)

-- what a claim tells of the view before and after: the number of an index that is greater than each index drawn from the range before, or that the range is dry
abbrev pub Tells : (ℕ → ℕ → ℕ) → List ℕ → ℕ → BoardView → BoardView → Claim → Type 0
Tells number lengths r v w (Number n) = (x : ℕ) × (x < slice_index lengths r) × (n ≡ number r x) × (w ≡ with_draw v r x) × ((y : ℕ) → x ≤ y → drawn r y v.draws ≡ 0)
Tells number lengths r v w Dry = w ≡ with_dry v r
