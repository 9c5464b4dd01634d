-- What a settled window comes to.
use Rattle.std.specs.Prelude.{◌≡◌, ℕ, suc, ◌+◌, ◌*◌, ◌≤◌, false, Some, None, List, [], ◌∷◌, length}
use Rattle.qk_base.specs.Judged.{Judged}
use Rattle.qk_schedule.specs.Course.{Plans}
use Rattle.qk_rounds.specs.declared.work.Work.{Work}
use Rattle.qk_rounds.specs.Windows.{Slot, fold, some_due}
use Rattle.qk_rounds.specs.Work.{settled_by, window_of}
use Rattle.qk_rounds.specs.Round.{Knows}

-- how many slots know an outcome
abbrev pub known_in : List Slot → ℕ
known_in [] = 0
known_in (None ∷ slots) = known_in slots
known_in (Some known ∷ slots) = suc (known_in slots)

-- none of the slots is due any more, and what that took: a round makes at least one more slot exact, and a slot is known only by
-- an answer that was stored
pub record Settles {S P : Type 0} (plans : Plans S P) (outcome : ℕ → ℕ → Judged) (s : S) (n : ℕ) (old new : List Slot) (before after : Work) : Type 0 where
  pub same_length : length new ≡ length old
  pub knows : Knows outcome n new
  pub none_due : some_due (fold plans (plans.plan s) new) ≡ false
  pub windows : after.windows ≡ before.windows
  pub rounds : after.rounds ≤ before.rounds + length old
  pub trials : after.trials ≤ before.trials + 4096 * length old
  pub stored : known_in new + before.trials ≤ known_in old + after.trials

-- slots are repaired until none is due
pub record IsSettled {S P : Type 0} (plans : Plans S P) (outcome : ℕ → ℕ → Judged) (s : S) (n : ℕ) (old new : List Slot) (before after : Work) : Type 0 where
  pub slots : (settled_by plans outcome (length old) (plans.plan s) n old before).slots ≡ new
  pub work : (settled_by plans outcome (length old) (plans.plan s) n old before).work ≡ after
  pub settles : Settles plans outcome s n old new before after

-- a window is begun and settled; `count` slots of it are folded
pub record IsWindow {S P : Type 0} (plans : Plans S P) (outcome : ℕ → ℕ → Judged) (window : ℕ) (s : S) (n : ℕ) (before : Work) (new : List Slot) (count : ℕ) (after : Work) : Type 0 where
  pub slots : (window_of plans outcome window s n before).slots ≡ new
  pub work : (window_of plans outcome window s n before).work ≡ after
  pub folded : count ≡ length (fold plans (plans.plan s) new)
  pub same_length : length new ≡ window
  pub knows : Knows outcome n new
  pub none_due : some_due (fold plans (plans.plan s) new) ≡ false
  pub windows : after.windows ≡ before.windows + 1
  pub rounds : after.rounds ≤ before.rounds + window
  pub trials : after.trials ≤ before.trials + 4096 * window
  pub stored : known_in new + before.trials ≤ after.trials
