-- What a walker knows, and how often each entry stands in its lists.
use Rattle.std.specs.Prelude.{◌≡◌, ℕ, suc, ◌+◌, ◌-◌, ◌<◌, ◌≤◌, Bool, true, false, cond, nat_eq, List, [], ◌∷◌, ◌++◌, take, length, Option, Some, None}
use Rattle.qk_totals.specs.Totals.{times, drawn}
use Rattle.qk_path.specs.declared.view.PathView.{PathView}
use Rattle.qk_path.specs.Points.{width, Leads}
use Rattle.qk_path.specs.Paths.{path_word}

-- how many draws of level e are at or above n
abbrev pub past : ℕ → ℕ → List (ℕ × ℕ) → ℕ
past e n [] = 0
past e n (d ∷ ds) = cond (nat_eq d.0 e) (1 - (n - d.1)) 0 + past e n ds

module _ {F P : Type 0} where
  -- how many candidates the point has that is reached from the start
  abbrev pub start_width : (F → P → List P) → Option (F × P) → List ℕ → ℕ
  start_width children None path = 0
  start_width children (Some s) path = width (children s.0) s.1 path

  abbrev pub StartLeads : (F → P → List P) → (F → P → Bool) → Option (F × P) → List ℕ → Type 0
  StartLeads children failing None path = ⊥
  StartLeads children failing (Some s) path = Leads (children s.0) (failing s.0) s.1 path

  abbrev pub draws_of : ℕ → ℕ → PathView F P → ℕ
  draws_of e x v = drawn e x v.draws

  abbrev pub dones_of : ℕ → PathView F P → ℕ
  dones_of e v = times e v.done

  abbrev pub parts_of : PathView F P → ℕ
  parts_of v = v.parts

  -- 1 where the path has n steps
  abbrev pub full_of : ℕ → PathView F P → ℕ
  full_of n v = cond (nat_eq (length v.path) n) 1 0

  abbrev pub IsEmptyView : PathView F P → Type 0
  IsEmptyView v = (v.path ≡ []) × (v.draws ≡ []) × (v.done ≡ []) × (v.missed ≡ 0) × (v.absorbed ≡ [])

  -- draws and done levels only up to the walker's own level
  abbrev pub Tidy : PathView F P → Type 0
  Tidy v = (e : ℕ) → length v.path < e → ((x : ℕ) → drawn e x v.draws ≡ 0) × (times e v.done ≡ 0)

  -- the flag tells whether the walker is done at its level
  abbrev pub Marked : Bool → PathView F P → Type 0
  Marked b v = (b ≡ true → 0 < times (length v.path) v.done) × (b ≡ false → times (length v.path) v.done ≡ 0)

  -- at each level up to its own the walker is done as often as one of its draws there is no candidate's
  abbrev pub Ended : (F → P → List P) → PathView F P → Type 0
  Ended children v = (e : ℕ) → e ≤ length v.path → times e v.done ≡ past e (start_width children v.start (take e v.path)) v.draws

  -- the step that was taken at the walker's level, if there is one, is none of the walker's draws
  abbrev pub IsOthers : List ℕ → PathView F P → Type 0
  IsOthers places v = (j : ℕ) → path_word places (length v.path) ≡ suc j → drawn (length v.path) j v.draws ≡ 0

  -- the empty view of a walker that stands for some walkers
  abbrev pub fresh : Option (F × P) → ℕ → PathView F P
  fresh start parts = record { start = start; path = []; draws = []; done = []; missed = 0; parts = parts; absorbed = [] }

  -- how many candidates the point at the walker's path has
  abbrev pub width_of : (F → P → List P) → PathView F P → ℕ
  width_of children v = start_width children v.start v.path

  -- the view with one more entry
  abbrev pub with_draw : PathView F P → ℕ → PathView F P
  with_draw v x = record v { draws = v.draws ++ (length v.path, x) ∷ [] }

  abbrev pub with_done : PathView F P → ℕ → PathView F P
  with_done v x = record v { draws = v.draws ++ (length v.path, x) ∷ []; done = v.done ++ length v.path ∷ [] }

  abbrev pub with_miss : PathView F P → PathView F P
  with_miss v = record v { missed = v.missed + 1 }

  abbrev pub with_step : PathView F P → ℕ → PathView F P
  with_step v j = record v { path = v.path ++ j ∷ [] }
