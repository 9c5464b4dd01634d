-- What each step tells the seat that makes it.
use Rattle.std.specs.Prelude.{◌≡◌, ℕ, ◌+◌, ◌-◌, ◌<◌, ◌≤◌, [], ◌++◌}
use Rattle.atomic_table.specs.Table.{Me, Step}
use Rattle.qk_totals.specs.Totals.{times, drawn}
use Rattle.qk_board.specs.declared.view.BoardView.{BoardView}
use Rattle.qk_board.specs.Views.{length_at, fresh, with_draw, with_dry, with_lowered, with_seen}

abbrev pub Mine : Type 0
Mine = Me (Unit {0}) BoardView

-- a claim: the index found is a draw where it is below the length, and else the range is dry
abbrev pub Claimed : Step (Unit {0}) → Mine → ℕ → Mine → Type 0
Claimed st m x m' = let r = st.word - 1 in
    (m'.1 ≡ m.1)
    × (x < length_at m.0.lengths r → (m'.0 ≡ with_draw m.0 r x) × ((y : ℕ) → x ≤ y → drawn r y m.0.draws ≡ 0))
    × (length_at m.0.lengths r ≤ x → m'.0 ≡ with_dry m.0 r)

-- a lowering: the number joins the lowered ones
abbrev pub Lowered : Step (Unit {0}) → Mine → ℕ → Mine → Type 0
Lowered st m x m' = (m'.1 ≡ m.1) × (m'.0 ≡ with_lowered m.0 st.first)

-- a load: the bound joins the seen ones, and is at most each number that the seat lowered or saw
abbrev pub Looked : Step (Unit {0}) → Mine → ℕ → Mine → Type 0
Looked st m x m' = (m'.1 ≡ m.1) × (m'.0 ≡ with_seen m.0 x) × (x ≤ m.0.limit) × ((n : ℕ) → 0 < times n m.0.lowered → x ≤ n) × ((n : ℕ) → 0 < times n m.0.seen → x ≤ n)

-- a split: a seat hands one of the seats that it stands for to a new one
abbrev pub one_less : BoardView → BoardView
one_less v = record v { parts = v.parts - 1 }

abbrev pub handed : BoardView → BoardView
handed v = fresh v.limit v.lengths 1

-- a join: one seat has both views, and the other is spent
abbrev pub joined : BoardView → BoardView → BoardView
joined v w = record { draws = v.draws ++ w.draws; dry = v.dry ++ w.dry; lowered = v.lowered ++ w.lowered; seen = v.seen ++ w.seen; limit = v.limit; lengths = v.lengths; parts = v.parts + w.parts }

abbrev pub spent_view : BoardView
spent_view = fresh 0 [] 0
