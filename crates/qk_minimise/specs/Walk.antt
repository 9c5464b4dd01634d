-- What a walker of a greedy shrink keeps as it walks, and where it ends.
use Rattle.std.specs.Prelude.{◌≡◌, ℕ, ◌+◌, ◌-◌, ◌<◌, Bool, false, List, [], ◌∷◌, ◌++◌, length, Option, Some, None}
use Rattle.qk_totals.specs.Totals.{times, drawn}
use Rattle.qk_path.specs.declared.view.PathView.{PathView}
use Rattle.qk_path.specs.Points.{Leads, width, candidate}
use Rattle.qk_path.specs.Views.{with_step}
use Rattle.qk_scan.specs.Work.{top_of}
use Rattle.qk_minimise.specs.declared.walking.Turn.{Turn}
use Rattle.qk_minimise.specs.declared.walking.Turn.TheVariants.{Claimed, Moved, Left}

module _ {F P : Type 0} where
  -- no number that was drawn at the walker's level is that of a failing candidate
  abbrev pub NoneFails : (P → List P) → (P → Bool) → P → PathView F P → Type 0
  NoneFails children failing p v = (k : ℕ) → 0 < drawn (length v.path) k v.draws → k < width children p v.path → failing (candidate children p v.path k) ≡ false

  -- a walker between two turns: its steps lead to failing candidates, each of its draws had a look before it that found no step, and
  -- none of its draws at its level fails
  pub record Walks (children : P → List P) (failing : P → Bool) (p : P) (v : PathView F P) : Type 0 where
    pub leads : Leads children failing p v.path
    pub looks : v.missed ≡ length v.draws
    pub none_fails : NoneFails children failing p v

  -- a walker that wanted memory: its steps lead to failing candidates, and each of its draws had a look before it that found no step
  pub record Halted (children : P → List P) (failing : P → Bool) (p : P) (v : PathView F P) : Type 0 where
    pub leads : Leads children failing p v.path
    pub looks : v.missed ≡ length v.draws

  -- a walker that is done at its level, and looked once more
  pub record HasLeft (children : P → List P) (failing : P → Bool) (p : P) (v : PathView F P) : Type 0 where
    pub leads : Leads children failing p v.path
    pub looks : v.missed ≡ length v.draws + 1
    pub none_fails : NoneFails children failing p v
    pub done : 0 < times (length v.path) v.done

  -- Where a walk ends: at the limit, or at a level at which the walker is done. No number that it drew there is that of a failing
  -- candidate. Its looks that found no step are as many as its draws, and one more where its level is below the limit.
  pub record Walked (children : P → List P) (failing : P → Bool) (p : P) (limit : ℕ) (v : PathView F P) : Type 0 where
    pub leads : Leads children failing p v.path
    pub none_fails : NoneFails children failing p v
    pub looks_at_limit : length v.path ≡ limit → v.missed ≡ length v.draws
    pub looks_below : length v.path < limit → v.missed ≡ length v.draws + 1
    pub done : length v.path < limit → 0 < times (length v.path) v.done

  -- what is left to do at a level
  abbrev pub budget : (P → List P) → P → PathView F P → ℕ
  budget children p v = (1 - times (length v.path) v.done) + (width children p v.path - top_of (length v.path) v.draws)

  -- what a candidate that was tried came to: it does not fail and the view is as before, or there is one more step
  abbrev pub Tried : (P → List P) → (P → Bool) → P → ℕ → PathView F P → PathView F P → Option ℕ → Type 0
  Tried children failing p k v w None = (w ≡ v) × (failing (candidate children p v.path k) ≡ false)
  Tried children failing p k v w (Some step) = (w ≡ with_step v step) × Leads children failing p (v.path ++ step ∷ [])

  -- what a turn came to
  abbrev pub Turned : (P → List P) → (P → Bool) → P → PathView F P → PathView F P → Turn → Type 0
  Turned children failing p v w Claimed = (w.path ≡ v.path) × Walks children failing p w × (budget children p w < budget children p v)
  Turned children failing p v w (Moved step) = (w.path ≡ v.path ++ step ∷ []) × Walks children failing p w
  Turned children failing p v w Left = (w.path ≡ v.path) × HasLeft children failing p w

  -- what the turns at a level came to: one more step, or the walker has left
  abbrev pub Passed : (P → List P) → (P → Bool) → P → List ℕ → PathView F P → Option ℕ → Type 0
  Passed children failing p path w (Some step) = (w.path ≡ path ++ step ∷ []) × Walks children failing p w
  Passed children failing p path w None = (w.path ≡ path) × HasLeft children failing p w
