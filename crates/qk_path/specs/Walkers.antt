-- What a walker of a path table knows.
use Rattle.std.specs.Prelude.{◌≡◌, ℕ, ◌+◌, ◌<◌, ◌≤◌, ◌⊎◌, Bool, List, [], ◌∷◌, ◌++◌, take, length, Option, Some, None}
use Rattle.atomic_table.specs.Seated.{TableId}
use Rattle.qk_base.specs.declared.family.Family.{Ghosts}
use Rattle.qk_totals.specs.Totals.{times, drawn}
use Rattle.qk_path.specs.declared.view.PathView.{PathView}
use Rattle.qk_path.specs.declared.walker.Walker.{Walker}
use Rattle.qk_path.specs.declared.table.Taken.{Taken}
use Rattle.qk_path.specs.declared.table.Taken.TheVariants.{Mine, Other}
use Rattle.qk_path.specs.Points.{Leads, width}
use Rattle.qk_path.specs.Views.{with_step, with_miss}

module _ {F P : Type 0} where
  -- what a look tells of the view before and after: one more look that found no step, or the step, which leads on
  abbrev pub Shows : (P → List P) → (P → Bool) → P → PathView F P → PathView F P → Option ℕ → Type 0
  Shows children failing p v w None = w ≡ with_miss v
  Shows children failing p v w (Some j) = (w ≡ with_step v j) × Leads children failing p (v.path ++ j ∷ [])

  -- what an offer of candidate k tells of the view before and after: the step is k, or it is one that this walker did not draw
  abbrev pub Tells : (P → List P) → (P → Bool) → P → ℕ → PathView F P → PathView F P → Taken → Type 0
  Tells children failing p k v w Mine = (w ≡ with_step v k) × Leads children failing p (v.path ++ k ∷ [])
  Tells children failing p k v w (Other j) = (w ≡ with_step v j) × Leads children failing p (v.path ++ j ∷ []) × (drawn (length v.path) j v.draws ≡ 0)

  -- the walker is done at a level exactly where it drew a number there that is at or above the number of candidates
  abbrev pub IsDoneWhere : (P → List P) → P → PathView F P → Type 0
  IsDoneWhere children p v = (e : ℕ)
      → (0 < times e v.done → (x : ℕ) × (width children p (take e v.path) ≤ x) × (0 < drawn e x v.draws))
      × ((x : ℕ) → width children p (take e v.path) ≤ x → 0 < drawn e x v.draws → 0 < times e v.done)

module _ {F P Q : Type 0} {met : Ghosts F P Q} where
  abbrev pub view_of : Walker F P Q met → PathView F P
  view_of w = w.seat.me.0

  -- the walker is one of the table with this family, root and limit, and has room for a whole path
  abbrev pub IsWalkerOf : TableId → F → P → ℕ → Walker F P Q met → Type 0
  IsWalkerOf id f p limit w = (w.seat.table_id ≡ id) × ((view_of w).start ≡ Some (f, p)) × ((view_of w).parts ≡ 1) × (length (view_of w).path ≤ limit) × (limit ≤ length w.path.items + w.path.spare)

  -- one of the walkers has that path
  abbrev pub HasPath : List ℕ → List (Walker F P Q met) → Type 0
  HasPath path [] = ⊥
  HasPath path (w ∷ ws) = ((view_of w).path ≡ path) ⊎ HasPath path ws
