-- Windows of attempts at guessed sizes, and rounds of repair. They decide the numbers of work alone.
use Rattle.std.specs.Prelude.{ℕ, suc, ◌+◌, ◌==◌, Bool, true, false, not, ◌&&◌, ◌||◌, Option, Some, None, is_some, List, [], ◌∷◌, length, take, if◌then◌else◌}
use Rattle.std.specs.List.{list_any}
use Rattle.qk_base.specs.Judged.{Judged, cause_of, passes}
use Rattle.qk_schedule.specs.Course.{Rules, Plans}
use Rattle.qk_scan.specs.Prefix.{prefix_to_hit}
use Rattle.qk_rounds.specs.declared.known.Known.{Known}
use Rattle.qk_rounds.specs.declared.folded.Folded.{Folded}

-- a slot is unknown, or knows an outcome at a size
abbrev pub Slot : Type 0
Slot = Option Known

abbrev pub fails : Judged → Bool
fails o = is_some (cause_of o.verdict)

-- a slot is due where it is unknown, or knows another size than the predicted one
abbrev pub is_due : Slot → ℕ → Bool
is_due None size = true
is_due (Some known) size = not (known.size == size)

-- a slot is guessed to repeat its known Discard, and else to pass
abbrev pub guess : Slot → Bool
guess None = true
guess (Some known) = passes known.outcome || fails known.outcome

-- whether a slot knows a Fail at the predicted size
abbrev pub is_hit : Slot → ℕ → Bool
is_hit None size = false
is_hit (Some known) size = (known.size == size) && fails known.outcome

-- the slots in order, up to one that knows a Fail at its size, or one after which the run may stop
abbrev pub fold : {S P : Type 0} → Plans S P → P → List Slot → List Folded
fold plans plan [] = []
fold plans plan (slot ∷ slots) =
    let size = plans.size plan in
    let next = plans.step plan (guess slot) in
    let folded : Folded = record { size = size; due = is_due slot size } in
    (if is_hit slot size || plans.ends next then folded ∷ [] else folded ∷ fold plans next slots)

-- the slots of the fold
abbrev pub folded_slots : {S P : Type 0} → Plans S P → P → List Slot → List Slot
folded_slots plans plan slots = take (length (fold plans plan slots)) slots

abbrev pub some_due : List Folded → Bool
some_due folded = list_any (λ f. f.due) folded

-- the outcomes of the due slots at their sizes; the first slot is that of attempt n
abbrev pub due_outcomes : (ℕ → ℕ → Judged) → ℕ → List Folded → List Judged
due_outcomes outcome n [] = []
due_outcomes outcome n (f ∷ fs) = (if f.due then outcome n f.size ∷ due_outcomes outcome (n + 1) fs else due_outcomes outcome (n + 1) fs)

-- what a round stores
abbrev pub answers_of : (ℕ → ℕ → Judged) → ℕ → List Folded → List Judged
answers_of outcome n folded = prefix_to_hit fails (due_outcomes outcome n folded)

-- the due slots, in order, know the answers, for as long as there are any
abbrev pub stored : List Folded → List Judged → List Slot → List Slot
stored [] answers slots = slots
stored (f ∷ fs) answers [] = []
stored (f ∷ fs) answers (slot ∷ slots) = elim f.due [
  | false ↦ slot ∷ stored fs answers slots
  | true ↦ elim answers [
    | [] ↦ slot ∷ slots
    | answer ∷ more ↦ Some (record { size = f.size; outcome = answer }) ∷ stored fs more slots
  ]
]

-- one round
abbrev pub repair : {S P : Type 0} → Plans S P → (ℕ → ℕ → Judged) → P → ℕ → List Slot → List Slot
repair plans outcome plan n slots =
    let folded = fold plans plan slots in
    stored folded (answers_of outcome n folded) slots

-- how many slots from the first on know their outcome at the size that the run gives after the slots before
abbrev pub exact : {S : Type 0} → Rules S → S → List Slot → ℕ
exact rules state [] = 0
exact rules state (slot ∷ slots) = elim (rules.stop state) [
  | Some why ↦ 0
  | None ↦ elim slot [
    | None ↦ 0
    | Some known ↦ (if known.size == rules.size state
        then (if fails known.outcome then 1 else suc (exact rules (rules.step state known.outcome) slots))
        else 0)
  ]
]
