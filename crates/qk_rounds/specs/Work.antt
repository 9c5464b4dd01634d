-- The work of a run by windows.
use Rattle.std.specs.Prelude.{ℕ, zero, suc, ◌+◌, true, false, Option, Some, None, List, [], ◌∷◌, ◌++◌, length, replicate}
use Rattle.qk_base.specs.Judged.{Judged, cause_of}
use Rattle.qk_schedule.specs.declared.finish.Finish.{Finish}
use Rattle.qk_schedule.specs.declared.finish.Finish.TheVariants.{Failed}
use Rattle.qk_schedule.specs.Course.{Rules, Plans}
use Rattle.qk_rounds.specs.declared.work.Work.{Work}
use Rattle.qk_rounds.specs.Windows.{Slot, fold, folded_slots, some_due, answers_of, repair}

-- a window whose slots are not due any more
pub record Settled : Type 0 where
  pub slots : List Slot
  pub work : Work

-- a window repaired until none is due, in at most `fuel` rounds
abbrev pub settled_by : {S P : Type 0} → Plans S P → (ℕ → ℕ → Judged) → ℕ → P → ℕ → List Slot → Work → Settled
settled_by plans outcome zero plan n slots work = record { slots = slots; work = work }
settled_by plans outcome (suc fuel) plan n slots work =
    let folded = fold plans plan slots in
    elim (some_due folded) [
      | false ↦ record { slots = slots; work = work }
      | true ↦ settled_by plans outcome fuel plan n (repair plans outcome plan n slots)
          (record { windows = work.windows; rounds = work.rounds + 1; trials = work.trials + length (answers_of outcome n folded) })
    ]

-- where a run stands after some committed slots: the state, the next attempt, what was committed, and how it ended, if it has
pub record Committed (S : Type 0) : Type 0 where
  pub state : S
  pub next : ℕ
  pub done : List Judged
  pub finish : Option Finish

-- slots are committed in order, up to one that knows a Fail
abbrev pub committed : {S : Type 0} → Rules S → List Slot → S → ℕ → List Judged → Committed S
committed rules [] state n done = record { state = state; next = n; done = done; finish = None }
committed rules (slot ∷ slots) state n done = elim slot [
  | None ↦ record { state = state; next = n; done = done; finish = None }
  | Some known ↦ elim (cause_of known.outcome.verdict) [
    | Some cause ↦ record { state = state; next = n; done = done; finish = Some (Failed n known.size cause) }
    | None ↦ committed rules slots (rules.step state known.outcome) (n + 1) (done ++ known.outcome ∷ [])
  ]
]

-- a window of unknown slots from attempt n on, after its rounds
abbrev pub window_of : {S P : Type 0} → Plans S P → (ℕ → ℕ → Judged) → ℕ → S → ℕ → Work → Settled
window_of plans outcome window state n work =
    settled_by plans outcome window (plans.plan state) n (replicate window None)
    (record { windows = work.windows + 1; rounds = work.rounds; trials = work.trials })

-- what that window commits, after what was done before
abbrev pub commit_of : {S P : Type 0} → Rules S → Plans S P → (ℕ → ℕ → Judged) → ℕ → S → ℕ → Work → List Judged → Committed S
commit_of rules plans outcome window state n work done =
    committed rules (folded_slots plans (plans.plan state) (window_of plans outcome window state n work).slots) state n done

-- the work of a run from a state on, where at most `fuel` windows begin
abbrev pub work_by : {S P : Type 0} → Rules S → Plans S P → (ℕ → ℕ → Judged) → ℕ → ℕ → S → ℕ → Work → Work
work_by rules plans outcome window zero state n work = work
work_by rules plans outcome window (suc fuel) state n work = elim (rules.stop state) [
  | Some why ↦ work
  | None ↦
      let after = (window_of plans outcome window state n work).work in
      let commit = commit_of rules plans outcome window state n work [] in
      elim commit.finish [
        | Some finish ↦ after
        | None ↦ work_by rules plans outcome window fuel commit.state commit.next after
      ]
]

-- the work of the whole run
abbrev pub work_of : {S P : Type 0} → Rules S → Plans S P → (ℕ → ℕ → Judged) → ℕ → Work
work_of rules plans outcome window =
    work_by rules plans outcome window (suc (rules.rest rules.start)) rules.start 0 (record { windows = 0; rounds = 0; trials = 0 })
