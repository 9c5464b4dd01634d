-- One slot of a window: of its exact prefix, of its fold, of a round.
use Rattle.std.proofs.Common.{◌≡◌, ℕ, suc, ◌+◌, ◌<◌, ◌==◌, Bool, true, false, cond, not, ◌||◌, ◌&&◌, is_some, Option, Some, None, List, [], ◌∷◌, refl, ◌∙◌, ap, arith}
use Rattle.qk_base.specs.Judged.{Judged}
use Rattle.qk_schedule.specs.Course.{Rules, Plans}
use Rattle.qk_scan.specs.Prefix.{prefix_to_hit}
use Rattle.qk_rounds.specs.declared.known.Known.{Known}
use Rattle.qk_rounds.specs.declared.folded.Folded.{Folded}
use Rattle.qk_rounds.specs.Windows.{Slot, fold, is_due, is_hit, guess, fails, some_due, stored, due_outcomes, answers_of, exact}
use Rattle.std.proofs.lemmas.Bool.Decides.{nat_tests}

-- one slot of the exact prefix

pub exact-unknown : {S : Type 0} (rules : Rules S) (s : S) (slots : List Slot) → rules.stop s ≡ None → exact rules s (None ∷ slots) ≡ 0
exact-unknown rules s slots e = rw (e, exact) refl

pub exact-other : {S : Type 0} (rules : Rules S) (s : S) (k : Known) (slots : List Slot) → rules.stop s ≡ None → (k.size == rules.size s) ≡ false → exact rules s (Some k ∷ slots) ≡ 0
exact-other rules s k slots e h = rw (e, h, exact) refl

pub exact-fails : {S : Type 0} (rules : Rules S) (s : S) (k : Known) (slots : List Slot) → rules.stop s ≡ None → (k.size == rules.size s) ≡ true → fails k.outcome ≡ true → exact rules s (Some k ∷ slots) ≡ 1
exact-fails rules s k slots e h f = rw (e, h, f, exact) refl

pub exact-goes_on : {S : Type 0} (rules : Rules S) (s : S) (k : Known) (slots : List Slot) → rules.stop s ≡ None → (k.size == rules.size s) ≡ true → fails k.outcome ≡ false → exact rules s (Some k ∷ slots) ≡ suc (exact rules (rules.step s k.outcome) slots)
exact-goes_on rules s k slots e h f = rw (e, h, f, exact) refl

-- one slot of the fold

pub fold-last : {S P : Type 0} (plans : Plans S P) (p : P) (slot : Slot) (slots : List Slot)
    → (is_hit slot (plans.size p) || plans.ends (plans.step p (guess slot))) ≡ true
    → fold plans p (slot ∷ slots) ≡ record { size = plans.size p; due = is_due slot (plans.size p) } ∷ []
fold-last plans p slot slots h = rw (h, fold) refl

pub fold-goes_on : {S P : Type 0} (plans : Plans S P) (p : P) (slot : Slot) (slots : List Slot)
    → (is_hit slot (plans.size p) || plans.ends (plans.step p (guess slot))) ≡ false
    → fold plans p (slot ∷ slots) ≡ record { size = plans.size p; due = is_due slot (plans.size p) } ∷ fold plans (plans.step p (guess slot)) slots
fold-goes_on plans p slot slots h = rw (h, fold) refl

pub fold-first : {S P : Type 0} (plans : Plans S P) (p : P) (slot : Slot) (slots : List Slot)
    → (fs : List Folded) × (fold plans p (slot ∷ slots) ≡ record { size = plans.size p; due = is_due slot (plans.size p) } ∷ fs)
fold-first plans p slot slots =
    elim (is_hit slot (plans.size p) || plans.ends (plans.step p (guess slot))) as (λ b. (is_hit slot (plans.size p) || plans.ends (plans.step p (guess slot))) ≡ b → (fs : List Folded) × (fold plans p (slot ∷ slots) ≡ record { size = plans.size p; due = is_due slot (plans.size p) } ∷ fs)) [
      | true ↦ λ h. ([], fold-last plans p slot slots h)
      | false ↦ λ h. (fold plans (plans.step p (guess slot)) slots, fold-goes_on plans p slot slots h)
    ] refl

-- one slot of a round

pub due_outcomes-due : (outcome : ℕ → ℕ → Judged) (n : ℕ) (f : Folded) (fs : List Folded) → f.due ≡ true → due_outcomes outcome n (f ∷ fs) ≡ outcome n f.size ∷ due_outcomes outcome (n + 1) fs
due_outcomes-due outcome n f fs d = rw d refl

pub due_outcomes-kept : (outcome : ℕ → ℕ → Judged) (n : ℕ) (f : Folded) (fs : List Folded) → f.due ≡ false → due_outcomes outcome n (f ∷ fs) ≡ due_outcomes outcome (n + 1) fs
due_outcomes-kept outcome n f fs d = rw d refl

pub prefix-first : (o : Judged) (os : List Judged) → (more : List Judged) × (prefix_to_hit fails (o ∷ os) ≡ o ∷ more)
prefix-first o os = (cond (fails o) [] (prefix_to_hit fails os), refl)

pub stored-one : (f : Folded) (fs : List Folded) (o : Judged) (more : List Judged) (slot : Slot) (slots : List Slot) → f.due ≡ true
    → stored (f ∷ fs) (o ∷ more) (slot ∷ slots) ≡ Some (record { size = f.size; outcome = o }) ∷ stored fs more slots
stored-one f fs o more slot slots d = rw (d, stored) refl

pub stored-none : (f : Folded) (fs : List Folded) (answers : List Judged) (slot : Slot) (slots : List Slot) → f.due ≡ false
    → stored (f ∷ fs) answers (slot ∷ slots) ≡ slot ∷ stored fs answers slots
stored-none f fs answers slot slots d = rw (d, stored) refl

pub stored-due : (outcome : ℕ → ℕ → Judged) (n : ℕ) (f : Folded) (fs : List Folded) (slot : Slot) (slots : List Slot) → f.due ≡ true
    → (more : List Slot) × (stored (f ∷ fs) (answers_of outcome n (f ∷ fs)) (slot ∷ slots) ≡ Some (record { size = f.size; outcome = outcome n f.size }) ∷ more)
stored-due outcome n f fs slot slots d =
    let first = prefix-first (outcome n f.size) (due_outcomes outcome (n + 1) fs) in (
      stored fs first.0 slots,
      ap (λ os. stored (f ∷ fs) (prefix_to_hit fails os) (slot ∷ slots)) (due_outcomes-due outcome n f fs d)
          ∙ (ap (λ os. stored (f ∷ fs) os (slot ∷ slots)) first.1
          ∙ stored-one f fs (outcome n f.size) first.0 slot slots d),
    )

pub stored-kept : (outcome : ℕ → ℕ → Judged) (n : ℕ) (f : Folded) (fs : List Folded) (slot : Slot) (slots : List Slot) → f.due ≡ false
    → stored (f ∷ fs) (answers_of outcome n (f ∷ fs)) (slot ∷ slots) ≡ slot ∷ stored fs (answers_of outcome (n + 1) fs) slots
stored-kept outcome n f fs slot slots d =
    ap (λ os. stored (f ∷ fs) (prefix_to_hit fails os) (slot ∷ slots)) (due_outcomes-kept outcome n f fs d)
    ∙ stored-none f fs (answers_of outcome (n + 1) fs) slot slots d

-- tests

pub none_of : {A : Type 0} (x : Option A) → is_some x ≡ false → x ≡ None
none_of None h = refl
none_of (Some a) h = cc

pub same_size : (a b : ℕ) → a ≡ b → (a == b) ≡ true
same_size a b e = grind (arith, nat_tests)

pub sizes_equal : (a b : ℕ) → (a == b) ≡ true → a ≡ b
sizes_equal a b e = grind (arith, nat_tests)

pub exact-some : {S : Type 0} (rules : Rules S) (s : S) (k : Known) (slots : List Slot) → rules.stop s ≡ None → k.size ≡ rules.size s → 0 < exact rules s (Some k ∷ slots)
exact-some rules s k slots e h =
    elim (fails k.outcome) as (λ b. fails k.outcome ≡ b → 0 < exact rules s (Some k ∷ slots)) [
      | true ↦ λ f. rw (exact-fails rules s k slots e (same_size _ _ h) f) (omega arith)
      | false ↦ λ f. rw (exact-goes_on rules s k slots e (same_size _ _ h) f) (omega arith)
    ] refl

pub exact-due : {S : Type 0} (rules : Rules S) (s : S) (slot : Slot) (slots : List Slot) → rules.stop s ≡ None → is_due slot (rules.size s) ≡ true → exact rules s (slot ∷ slots) ≡ 0
exact-due rules s None slots e d = exact-unknown rules s slots e
exact-due rules s (Some k) slots e d = exact-other rules s k slots e (not_true (k.size == rules.size s) d)
  where
    not_true : (b : Bool) → not b ≡ true → b ≡ false
    not_true true h = cc
    not_true false h = refl

pub some_due-cons : (f : Folded) (fs : List Folded) → f.due ≡ false → some_due (f ∷ fs) ≡ some_due fs
some_due-cons f fs d = rw d refl

pub or_left : (a b : Bool) → (a || b) ≡ false → a ≡ false
or_left true b h = h
or_left false b h = refl

pub or_right : (a b : Bool) → (a || b) ≡ false → b ≡ false
or_right true b h = cc
or_right false b h = h

pub and_right : (a b : Bool) → a ≡ true → (a && b) ≡ false → b ≡ false
and_right true b e h = h
and_right false b e h = cc

pub not_false : (b : Bool) → not b ≡ false → b ≡ true
not_false true h = refl
not_false false h = cc
