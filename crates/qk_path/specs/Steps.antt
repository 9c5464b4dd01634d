-- What each step tells the walker that makes it.
use Rattle.std.specs.Prelude.{◌≡◌, ℕ, suc, ◌+◌, ◌-◌, ◌<◌, ◌≤◌, Bool, List, [], ◌∷◌, ◌++◌, length, None}
use Rattle.atomic_table.specs.Table.{Me, Step}
use Rattle.qk_totals.specs.Totals.{drawn}
use Rattle.qk_path.specs.declared.view.PathView.{PathView}
use Rattle.qk_path.specs.Paths.{longer}
use Rattle.qk_path.specs.Views.{StartLeads, fresh, width_of, with_draw, with_done, with_miss, with_step}

module _ {F P : Type 0} where
  -- a claim: the number found is a draw, and the walker is done where it is at or above the number of candidates
  abbrev pub Claimed : (F → P → List P) → Step (Unit {0}) → Me (Unit {0}) (PathView F P) → ℕ → Me (Unit {0}) (PathView F P) → Type 0
  Claimed children st m x m' =
      (m'.1 ≡ m.1)
      × ((y : ℕ) → x ≤ y → drawn (length m.0.path) y m.0.draws ≡ 0)
      × (x < width_of children m.0 → m'.0 ≡ with_draw m.0 x)
      × (width_of children m.0 ≤ x → m'.0 ≡ with_done m.0 x)

  -- a load: the walker learns the step of its level, or that there is none yet
  abbrev pub Looked : (F → P → List P) → (F → P → Bool) → Step (Unit {0}) → Me (Unit {0}) (PathView F P) → ℕ → Me (Unit {0}) (PathView F P) → Type 0
  Looked children failing st m x m' =
      (m'.1 ≡ m.1)
      × (x ≡ 0 → m'.0 ≡ with_miss m.0)
      × ((j : ℕ) → x ≡ suc j → (m'.0 ≡ with_step m.0 j) × StartLeads children failing m.0.start (m.0.path ++ j ∷ []))

  -- an offer: the walker learns the step of its level, which is its own where there was none, and else none of its draws
  abbrev pub Offered : (F → P → List P) → (F → P → Bool) → Step (Unit {0}) → Me (Unit {0}) (PathView F P) → ℕ → Me (Unit {0}) (PathView F P) → Type 0
  Offered children failing st m x m' =
      (m'.1 ≡ m.1)
      × (x ≡ 0 → (j : ℕ) → st.second ≡ suc j → (m'.0 ≡ with_step m.0 j) × StartLeads children failing m.0.start (m.0.path ++ j ∷ []))
      × ((j : ℕ) → x ≡ suc j → (m'.0 ≡ with_step m.0 j) × StartLeads children failing m.0.start (m.0.path ++ j ∷ []) × (drawn (length m.0.path) j m.0.draws ≡ 0))

  -- a split: a walker hands one of the walkers that it stands for to a new one
  abbrev pub one_less : PathView F P → PathView F P
  one_less v = record v { parts = v.parts - 1 }

  abbrev pub handed : PathView F P → PathView F P
  handed v = fresh v.start 1

  -- a join: one walker has both views with the longer path, and the other is spent
  abbrev pub joined : PathView F P → PathView F P → PathView F P
  joined v w = record {
    start = v.start;
    path = longer v.path w.path;
    draws = v.draws ++ w.draws;
    done = v.done ++ w.done;
    missed = v.missed + w.missed;
    parts = v.parts + w.parts;
    absorbed = v.absorbed ++ v.path ∷ w.path ∷ w.absorbed;
  }

  abbrev pub spent_view : PathView F P
  spent_view = fresh None 0
