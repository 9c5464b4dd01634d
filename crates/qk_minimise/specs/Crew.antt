-- The walkers of a greedy shrink, before and after.
use Rattle.std.specs.Prelude.{ℕ, Bool, List}
use Rattle.atomic_table.specs.Seated.{TableId}
use Rattle.qk_base.specs.declared.family.Family.{Ghosts}
use Rattle.qk_path.specs.declared.walker.Walker.{Walker}
use Rattle.qk_path.specs.Views.{IsEmptyView}
use Rattle.qk_path.specs.Walkers.{view_of, IsWalkerOf}
use Rattle.qk_minimise.specs.Walk.{Walked}

module _ {F P Q : Type 0} {met : Ghosts F P Q} where
  -- a walker that has made no step
  abbrev pub IsReady : TableId → F → P → ℕ → Walker F P Q met → Type 0
  IsReady id f p limit w = IsWalkerOf id f p limit w × IsEmptyView (view_of w)

  -- a walker whose walk has ended
  abbrev pub IsDone : TableId → (P → List P) → (P → Bool) → F → P → ℕ → Walker F P Q met → Type 0
  IsDone id children failing f p limit w = IsWalkerOf id f p limit w × Walked children failing p limit (view_of w)
