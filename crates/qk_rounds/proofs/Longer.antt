-- Each round makes the exact prefix longer.
use Rattle.std.proofs.Common.{◌≡◌, ℕ, ◌+◌, ◌<◌, true, false, ◌||◌, Some, None, List, [], ◌∷◌, refl, sym, ◌∙◌, ap, arith}
use Rattle.qk_base.specs.Judged.{Judged}
use Rattle.qk_schedule.specs.Course.{Rules, Plans}
use Rattle.qk_rounds.specs.declared.known.Known.{Known}
use Rattle.qk_rounds.specs.declared.folded.Folded.{Folded}
use Rattle.qk_rounds.specs.Windows.{Slot, fold, is_due, is_hit, guess, some_due, stored, answers_of, repair, exact}
use Rattle.qk_rounds.specs.Round.{Knows}
use Rattle.qk_rounds.proofs.Steps.{exact-goes_on, exact-some, exact-due, fold-first, fold-last, stored-due, stored-kept, some_due-cons, same_size}
use Rattle.qk_rounds.proofs.Predicts.{Predicts, Kept, kept_goes_on}

-- a slot that is due
pub due_longer : {S P : Type 0} (rules : Rules S) (plans : Plans S P) (outcome : ℕ → ℕ → Judged) (proper : S → Type 0) → Predicts rules plans outcome proper
    → (slot : Slot) (slots : List Slot) (s : S) (n : ℕ) → proper s → rules.stop s ≡ None
    → is_due slot (plans.size (plans.plan s)) ≡ true
    → exact rules s (slot ∷ slots) < exact rules s (repair plans outcome (plans.plan s) n (slot ∷ slots))
due_longer rules plans outcome proper laws slot slots s n ok e due =
    let p = plans.plan s in
    let same : rules.size s ≡ plans.size p = laws.sizes s ok e in
    let first = fold-first plans p slot slots in
    let f : Folded = record { size = plans.size p; due = is_due slot (plans.size p) } in
    let after = stored-due outcome n f first.0 slot slots due in
    let repaired : repair plans outcome p n (slot ∷ slots) ≡ Some (record { size = plans.size p; outcome = outcome n (plans.size p) }) ∷ after.0
    = ap (λ fs. stored fs (answers_of outcome n fs) (slot ∷ slots)) first.1 ∙ after.1 in
    let before : exact rules s (slot ∷ slots) ≡ 0 = exact-due rules s slot slots e (ap (is_due slot) same ∙ due) in
    let more = exact-some rules s (record { size = plans.size p; outcome = outcome n (plans.size p) }) after.0 e (sym same) in
    rw (repaired, before) more

pub kept_longer : {S P : Type 0} (rules : Rules S) (plans : Plans S P) (outcome : ℕ → ℕ → Judged) (proper : S → Type 0)
    → (k : Known) (slots : List Slot) (s : S) (n : ℕ) → rules.stop s ≡ None
    → Kept rules plans outcome proper s n k slots
    → exact rules (rules.step s k.outcome) slots < exact rules (rules.step s k.outcome) (repair plans outcome (plans.plan (rules.step s k.outcome)) (n + 1) slots)
    → exact rules s (Some k ∷ slots) < exact rules s (repair plans outcome (plans.plan s) n (Some k ∷ slots))
kept_longer rules plans outcome proper k slots s n e kept ih =
    let s' = rules.step s k.outcome in
    let first : Folded = record { size = k.size; due = false } in
    let repaired : repair plans outcome (plans.plan s) n (Some k ∷ slots) ≡ Some k ∷ repair plans outcome (plans.plan s') (n + 1) slots
    = ap (λ fs. stored fs (answers_of outcome n fs) (Some k ∷ slots)) kept.folded ∙ stored-kept outcome n first (fold plans (plans.plan s') slots) (Some k) slots refl in
    let before = exact-goes_on rules s k slots e (same_size _ _ kept.size) kept.passed in
    let after = exact-goes_on rules s k (repair plans outcome (plans.plan s') (n + 1) slots) e (same_size _ _ kept.size) kept.passed in
    rw (repaired, before, after) (omega arith)

pub repair_longer : {S P : Type 0} (rules : Rules S) (plans : Plans S P) (outcome : ℕ → ℕ → Judged) (proper : S → Type 0) → Predicts rules plans outcome proper
    → (slots : List Slot) (s : S) (n : ℕ) → proper s → rules.stop s ≡ None → Knows outcome n slots
    → some_due (fold plans (plans.plan s) slots) ≡ true
    → exact rules s slots < exact rules s (repair plans outcome (plans.plan s) n slots)
repair_longer rules plans outcome proper laws [] s n ok e known d = cc
repair_longer rules plans outcome proper laws (None ∷ slots) s n ok e known d = due_longer rules plans outcome proper laws None slots s n ok e refl
repair_longer rules plans outcome proper laws (Some k ∷ slots) s n ok e known d =
    let p = plans.plan s in
    elim (is_due (Some k) (plans.size p)) as (λ b. is_due (Some k) (plans.size p) ≡ b → exact rules s (Some k ∷ slots) < exact rules s (repair plans outcome p n (Some k ∷ slots))) [
      | true ↦ λ due. due_longer rules plans outcome proper laws (Some k) slots s n ok e due
      | false ↦ λ kept.
          elim (is_hit (Some k) (plans.size p) || plans.ends (plans.step p (guess (Some k)))) as (λ b. (is_hit (Some k) (plans.size p) || plans.ends (plans.step p (guess (Some k)))) ≡ b → exact rules s (Some k ∷ slots) < exact rules s (repair plans outcome p n (Some k ∷ slots))) [
            | true ↦ λ h.
                let none_due : some_due (fold plans p (Some k ∷ slots)) ≡ false = ap some_due (fold-last plans p (Some k) slots h) ∙ some_due-cons (record { size = plans.size p; due = is_due (Some k) (plans.size p) }) [] kept in
                let absent : true ≡ false = sym d ∙ none_due in
                cc
            | false ↦ λ h.
                let next : Kept rules plans outcome proper s n k slots = kept_goes_on rules plans outcome proper laws k slots s n ok e known.0 kept h in
                let due_next : some_due (fold plans (plans.plan (rules.step s k.outcome)) slots) ≡ true = sym (ap some_due next.folded) ∙ d in
                kept_longer rules plans outcome proper k slots s n e next
                (repair_longer rules plans outcome proper laws slots (rules.step s k.outcome) (n + 1) next.proper_next next.open_next known.1 due_next)
          ] refl
    ] refl
