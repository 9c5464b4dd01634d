-- What a seat knows, and how often each entry stands in its lists.
use Rattle.std.specs.Prelude.{◌≡◌, ℕ, List, [], ◌∷◌, ◌++◌, slice_index}
use Rattle.qk_totals.specs.Totals.{times, drawn}
use Rattle.qk_board.specs.declared.view.BoardView.{BoardView}

-- how many indexes the range r has
abbrev pub length_at : List ℕ → ℕ → ℕ
length_at lengths r = slice_index lengths r

-- how often a draw, a dry range, a lowered number or a bound that was seen stands in a view
abbrev pub draws_of : ℕ → ℕ → BoardView → ℕ
draws_of r x v = drawn r x v.draws

abbrev pub dries_of : ℕ → BoardView → ℕ
dries_of r v = times r v.dry

abbrev pub lowers_of : ℕ → BoardView → ℕ
lowers_of n v = times n v.lowered

abbrev pub sights_of : ℕ → BoardView → ℕ
sights_of n v = times n v.seen

abbrev pub parts_of : BoardView → ℕ
parts_of v = v.parts

-- a view whose lists of steps are empty
abbrev pub IsEmptyView : BoardView → Type 0
IsEmptyView v = (v.draws ≡ []) × (v.dry ≡ []) × (v.lowered ≡ []) × (v.seen ≡ [])

-- the empty view of a seat that stands for some seats
abbrev pub fresh : ℕ → List ℕ → ℕ → BoardView
fresh limit lengths parts = record { draws = []; dry = []; lowered = []; seen = []; limit = limit; lengths = lengths; parts = parts }

-- the view with one more entry
abbrev pub with_draw : BoardView → ℕ → ℕ → BoardView
with_draw v r x = record v { draws = v.draws ++ (r, x) ∷ [] }

abbrev pub with_dry : BoardView → ℕ → BoardView
with_dry v r = record v { dry = v.dry ++ r ∷ [] }

abbrev pub with_lowered : BoardView → ℕ → BoardView
with_lowered v n = record v { lowered = v.lowered ++ n ∷ [] }

abbrev pub with_seen : BoardView → ℕ → BoardView
with_seen v n = record v { seen = v.seen ++ n ∷ [] }
