-- What slots know, and what a round comes to.
use Rattle.std.specs.Prelude.{◌≡◌, ℕ, ◌+◌, ◌<◌, true, false, Option, Some, None, List, [], ◌∷◌, length}
use Rattle.qk_base.specs.Judged.{Judged}
use Rattle.qk_schedule.specs.Course.{Rules, Plans}
use Rattle.qk_rounds.specs.Windows.{Slot, fold, some_due, answers_of, repair, exact}

-- each known outcome is that of its number and size; the first slot is that of attempt n
abbrev pub Knows : (ℕ → ℕ → Judged) → ℕ → List Slot → Type 0
Knows outcome n [] = Unit {0}
Knows outcome n (None ∷ slots) = Knows outcome (n + 1) slots
Knows outcome n (Some known ∷ slots) = (known.outcome ≡ outcome n known.size) × Knows outcome (n + 1) slots

-- a slot was due, the slots are repaired, this many answers were stored, and more slots are exact
pub record Repaired {S P : Type 0} (rules : Rules S) (plans : Plans S P) (outcome : ℕ → ℕ → Judged) (s : S) (n : ℕ) (old new : List Slot) (count : ℕ) : Type 0 where
  pub due : some_due (fold plans (plans.plan s) old) ≡ true
  pub slots : new ≡ repair plans outcome (plans.plan s) n old
  pub count_is : count ≡ length (answers_of outcome n (fold plans (plans.plan s) old))
  pub some : 0 < count
  pub longer : exact rules s old < exact rules s new

-- no slot was due, and the slots are as before
pub record Undue {S P : Type 0} (plans : Plans S P) (s : S) (old new : List Slot) : Type 0 where
  pub none_due : some_due (fold plans (plans.plan s) old) ≡ false
  pub slots : new ≡ old

-- the slots after a round, and its answer
abbrev pub IsRound : {S P : Type 0} → Rules S → Plans S P → (ℕ → ℕ → Judged) → S → ℕ → List Slot → List Slot → Option ℕ → Type 0
IsRound rules plans outcome s n old new (Some count) = Repaired rules plans outcome s n old new count
IsRound rules plans outcome s n old new None = Undue plans s old new
