-- What the slots know after a round, and how many answers are stored.
use Rattle.std.proofs.Common.{◌≡◌, ℕ, suc, ◌+◌, ◌<◌, ◌≤◌, ◌==◌, true, false, cond, Some, None, List, [], ◌∷◌, length, refl, sym, ◌∙◌, ap, subst, arith}
use Rattle.qk_base.specs.Judged.{Judged}
use Rattle.qk_schedule.specs.Course.{Rules}
use Rattle.qk_scan.specs.Prefix.{prefix_to_hit}
use Rattle.qk_rounds.specs.declared.folded.Folded.{Folded}
use Rattle.qk_rounds.specs.Windows.{Slot, fails, some_due, stored, due_outcomes, answers_of, exact}
use Rattle.qk_rounds.specs.Round.{Knows}
use Rattle.qk_rounds.proofs.Steps.{exact-unknown, exact-other, exact-fails, exact-goes_on, due_outcomes-due, due_outcomes-kept, prefix-first, stored-one, stored-none, stored-kept, some_due-cons}

-- after a round the slots still know the trial's outcomes

pub stored-empty : (folded : List Folded) (slots : List Slot) → stored folded [] slots ≡ slots
stored-empty [] slots = refl
stored-empty (f ∷ fs) [] = refl
stored-empty (f ∷ fs) (slot ∷ slots) = elim f.due as (λ b. f.due ≡ b → stored (f ∷ fs) [] (slot ∷ slots) ≡ slot ∷ slots) [
  | true ↦ λ d. rw (d, stored) refl
  | false ↦ λ d. stored-none f fs [] slot slots d ∙ ap (λ (l : List Slot). slot ∷ l) (stored-empty fs slots)
] refl

pub knows_tail : (outcome : ℕ → ℕ → Judged) (n : ℕ) (slot : Slot) (slots : List Slot) → Knows outcome n (slot ∷ slots) → Knows outcome (n + 1) slots
knows_tail outcome n None slots h = h
knows_tail outcome n (Some k) slots h = h.1

pub knows_cons : (outcome : ℕ → ℕ → Judged) (n : ℕ) (slot : Slot) (slots more : List Slot) → Knows outcome n (slot ∷ slots) → Knows outcome (n + 1) more → Knows outcome n (slot ∷ more)
knows_cons outcome n None slots more h t = t
knows_cons outcome n (Some k) slots more h t = (h.0, t)

pub repair_knows : (outcome : ℕ → ℕ → Judged) (n : ℕ) (folded : List Folded) (slots : List Slot) → Knows outcome n slots → Knows outcome n (stored folded (answers_of outcome n folded) slots)
repair_knows outcome n [] slots known = known
repair_knows outcome n (f ∷ fs) [] known = tt
repair_knows outcome n (f ∷ fs) (slot ∷ slots) known =
    let P : List Slot → Type 0 = λ l. Knows outcome n l in
    elim f.due as (λ b. f.due ≡ b → Knows outcome n (stored (f ∷ fs) (answers_of outcome n (f ∷ fs)) (slot ∷ slots))) [
      | false ↦ λ d. subst P (sym (stored-kept outcome n f fs slot slots d))
          (knows_cons outcome n slot slots (stored fs (answers_of outcome (n + 1) fs) slots) known (repair_knows outcome (n + 1) fs slots (knows_tail outcome n slot slots known)))
      | true ↦ λ d.
          let o = outcome n f.size in
          let rest = due_outcomes outcome (n + 1) fs in
          elim (fails o) as (λ b. fails o ≡ b → Knows outcome n (stored (f ∷ fs) (answers_of outcome n (f ∷ fs)) (slot ∷ slots))) [
            | true ↦ λ h.
                let answers : answers_of outcome n (f ∷ fs) ≡ o ∷ [] = ap (prefix_to_hit fails) (due_outcomes-due outcome n f fs d) ∙ rw h refl in
                subst P (sym (ap (λ os. stored (f ∷ fs) os (slot ∷ slots)) answers ∙ stored-one f fs o [] slot slots d))
                (refl, subst (λ (l : List Slot). Knows outcome (n + 1) l) (sym (stored-empty fs slots)) (knows_tail outcome n slot slots known))
            | false ↦ λ h.
                let answers : answers_of outcome n (f ∷ fs) ≡ o ∷ prefix_to_hit fails rest = ap (prefix_to_hit fails) (due_outcomes-due outcome n f fs d) ∙ rw h refl in
                subst P (sym (ap (λ os. stored (f ∷ fs) os (slot ∷ slots)) answers ∙ stored-one f fs o (prefix_to_hit fails rest) slot slots d))
                (refl, repair_knows outcome (n + 1) fs slots (knows_tail outcome n slot slots known))
          ] refl
    ] refl

-- a round keeps the number of slots
pub length-stored : (folded : List Folded) (answers : List Judged) (slots : List Slot) → length (stored folded answers slots) ≡ length slots
length-stored [] answers slots = refl
length-stored (f ∷ fs) answers [] = refl
length-stored (f ∷ fs) [] (slot ∷ slots) = ap length (stored-empty (f ∷ fs) (slot ∷ slots))
length-stored (f ∷ fs) (a ∷ more) (slot ∷ slots) = elim f.due as (λ b. f.due ≡ b → length (stored (f ∷ fs) (a ∷ more) (slot ∷ slots)) ≡ length (slot ∷ slots)) [
  | true ↦ λ d. ap length (stored-one f fs a more slot slots d) ∙ ap suc (length-stored fs more slots)
  | false ↦ λ d. ap length (stored-none f fs (a ∷ more) slot slots d) ∙ ap suc (length-stored fs (a ∷ more) slots)
] refl

-- no more slots are exact than there are
pub exact-length : {S : Type 0} (rules : Rules S) (s : S) (slots : List Slot) → exact rules s slots ≤ length slots
exact-length rules s [] = omega arith
exact-length {S = S} rules s (slot ∷ slots) = elim (rules.stop s) as (λ w. rules.stop s ≡ w → exact rules s (slot ∷ slots) ≤ suc (length slots)) [
  | Some why ↦ λ e. let none : exact rules s (slot ∷ slots) ≡ 0 = rw (e, exact) refl in omega arith
  | None ↦ λ e. at_slot slot (λ s'. exact-length rules s' slots) e
] refl
  where
    at_slot : (slot' : Slot) → ((s' : S) → exact rules s' slots ≤ length slots) → rules.stop s ≡ None → exact rules s (slot' ∷ slots) ≤ suc (length slots)
    at_slot None ih e = omega (arith, exact-unknown rules s slots e)
    at_slot (Some k) ih e = elim (k.size == rules.size s) as (λ b. (k.size == rules.size s) ≡ b → exact rules s (Some k ∷ slots) ≤ suc (length slots)) [
      | false ↦ λ h. omega (arith, exact-other rules s k slots e h)
      | true ↦ λ h. elim (fails k.outcome) as (λ b. fails k.outcome ≡ b → exact rules s (Some k ∷ slots) ≤ suc (length slots)) [
        | true ↦ λ f. omega (arith, exact-fails rules s k slots e h f)
        | false ↦ λ f. omega (arith, exact-goes_on rules s k slots e h f, ih (rules.step s k.outcome))
      ] refl
    ] refl

-- no more answers are stored than slots are folded, and some where one is due
pub length-prefix : (os : List Judged) → length (prefix_to_hit fails os) ≤ length os
length-prefix [] = omega arith
length-prefix (o ∷ os) = elim (fails o) as (λ b. suc (length (cond b [] (prefix_to_hit fails os))) ≤ suc (length os)) [
  | true ↦ omega arith
  | false ↦ omega (arith, length-prefix os)
]

pub length-due : (outcome : ℕ → ℕ → Judged) (n : ℕ) (folded : List Folded) → length (due_outcomes outcome n folded) ≤ length folded
length-due outcome n [] = omega arith
length-due outcome n (f ∷ fs) = elim f.due as (λ b. f.due ≡ b → length (due_outcomes outcome n (f ∷ fs)) ≤ suc (length fs)) [
  | true ↦ λ d. let ih = length-due outcome (n + 1) fs in rw (due_outcomes-due outcome n f fs d) (omega (arith, ih))
  | false ↦ λ d. let ih = length-due outcome (n + 1) fs in rw (due_outcomes-kept outcome n f fs d) (omega (arith, ih))
] refl

pub length-answers : (outcome : ℕ → ℕ → Judged) (n : ℕ) (folded : List Folded) → length (answers_of outcome n folded) ≤ length folded
length-answers outcome n folded = omega (arith, length-prefix (due_outcomes outcome n folded), length-due outcome n folded)

pub some_answers : (outcome : ℕ → ℕ → Judged) (n : ℕ) (folded : List Folded) → some_due folded ≡ true → 0 < length (answers_of outcome n folded)
some_answers outcome n [] h = cc
some_answers outcome n (f ∷ fs) h = elim f.due as (λ b. f.due ≡ b → 0 < length (answers_of outcome n (f ∷ fs))) [
  | true ↦ λ d.
      let first = prefix-first (outcome n f.size) (due_outcomes outcome (n + 1) fs) in
      let is : answers_of outcome n (f ∷ fs) ≡ outcome n f.size ∷ first.0 = ap (prefix_to_hit fails) (due_outcomes-due outcome n f fs d) ∙ first.1 in
      rw is (omega arith)
  | false ↦ λ d.
      let h' : some_due fs ≡ true = sym (some_due-cons f fs d) ∙ h in
      let is : answers_of outcome n (f ∷ fs) ≡ answers_of outcome (n + 1) fs = ap (prefix_to_hit fails) (due_outcomes-kept outcome n f fs d) in
      rw is (some_answers outcome (n + 1) fs h')
] refl
