-- What a commit needs, and what it comes to.
use Rattle.std.specs.Prelude.{◌≡◌, ℕ, Option, Some, None, List, [], ◌∷◌, ◌++◌}
use Rattle.qk_base.specs.Judged.{Judged, DoesNotFail}
use Rattle.qk_schedule.specs.declared.finish.Finish.{Finish}
use Rattle.qk_schedule.specs.Course.{Rules}
use Rattle.qk_rounds.specs.Windows.{Slot}
use Rattle.qk_rounds.specs.Work.{Committed}

-- slots that can be committed from a state on: each is known, is reached at a state without a stop, and is taken unless it fails
abbrev pub Committable : {S : Type 0} → Rules S → (S → Type 0) → (Judged → Type 0) → List Slot → S → Type 0
Committable rules proper takes [] s = proper s
Committable rules proper takes (None ∷ slots) s = ⊥
Committable rules proper takes (Some known ∷ slots) s =
    proper s × (rules.stop s ≡ None) × (DoesNotFail known.outcome → takes known.outcome × Committable rules proper takes slots (rules.step s known.outcome))

-- a tally stood for what was done before, and stands for that with what was committed
pub record IsCommit {S : Type 0} (old new : List Judged → Type 0) (done : List Judged) (c : Committed S) (state : S) (next : ℕ) (finish : Option Finish) : Type 0 where
  pub state_is : state ≡ c.state
  pub next_is : next ≡ c.next
  pub finish_is : finish ≡ c.finish
  pub tally : old done → new c.done

-- some prefix of a list is stood for
pub record StandsForPrefix (stands_for : List Judged → Type 0) (outcomes : List Judged) : Type 0 where
  pub before : List Judged
  pub after : List Judged
  pub prefix : before ++ after ≡ outcomes
  pub stood_for : stands_for before
