-- How plans predict a run, and what follows at a slot that is kept.
use Rattle.std.proofs.Common.{◌≡◌, ℕ, ◌<◌, ◌==◌, Bool, true, false, ◌||◌, Some, None, List, ◌∷◌, refl, sym, ◌∙◌, ap, subst}
use Rattle.qk_base.specs.Judged.{Judged, DoesNotFail, passes, cause_of}
use Rattle.qk_schedule.specs.Course.{Rules, Plans, Lawful, TakesAll}
use Rattle.qk_rounds.specs.declared.known.Known.{Known}
use Rattle.qk_rounds.specs.declared.folded.Folded.{Folded}
use Rattle.qk_rounds.specs.Windows.{Slot, fold, is_due, is_hit, guess, fails}
use Rattle.qk_schedule.proofs.SequentialRun.{RestFalls, size_is_small, lawful_falls}
use Rattle.qk_rounds.proofs.Steps.{fold-goes_on, none_of, sizes_equal, or_left, or_right, and_right, not_false}

-- the laws of a course that takes a trial's outcomes, at those outcomes
pub record Predicts {S P : Type 0} (rules : Rules S) (plans : Plans S P) (outcome : ℕ → ℕ → Judged) (proper : S → Type 0) : Type 0 where
  pub run : RestFalls rules outcome proper
  pub sizes : (s : S) → proper s → rules.stop s ≡ None → rules.size s ≡ plans.size (plans.plan s)
  pub steps : (s : S) (k : ℕ) → proper s → rules.stop s ≡ None → DoesNotFail (outcome k (rules.size s))
      → plans.plan (rules.step s (outcome k (rules.size s))) ≡ plans.step (plans.plan s) (passes (outcome k (rules.size s)))
  pub running : (s : S) → proper s → plans.ends (plans.plan s) ≡ false → rules.stop s ≡ None

pub lawful_predicts : {S P : Type 0} (rules : Rules S) (plans : Plans S P) (takes : Judged → Type 0) (proper : S → Type 0) (goes_on : P → Type 0)
    → Lawful rules plans takes proper goes_on → (outcome : ℕ → ℕ → Judged) → TakesAll takes outcome → Predicts rules plans outcome proper
lawful_predicts rules plans takes proper goes_on laws outcome taken = record {
  run = lawful_falls rules plans takes proper goes_on laws outcome taken;
  sizes = laws.sizes_agree;
  steps = λ s k ok e passed. laws.steps_agree s (outcome k (rules.size s)) ok e
      (taken k (rules.size s) (size_is_small rules plans takes proper goes_on laws s ok e) passed);
  running = laws.runs_until_plan_ends;
}

-- a slot that is kept and does not fail leads to the next state

pub record Leads {S P : Type 0} (rules : Rules S) (plans : Plans S P) (proper : S → Type 0) (s : S) (k : Known) : Type 0 where
  pub proper_next : proper (rules.step s k.outcome)
  pub falls : rules.rest (rules.step s k.outcome) < rules.rest s
  pub planned : plans.plan (rules.step s k.outcome) ≡ plans.step (plans.plan s) (guess (Some k))
  pub open_next : plans.ends (plans.step (plans.plan s) (guess (Some k))) ≡ false → rules.stop (rules.step s k.outcome) ≡ None

pub leads : {S P : Type 0} (rules : Rules S) (plans : Plans S P) (outcome : ℕ → ℕ → Judged) (proper : S → Type 0) → Predicts rules plans outcome proper
    → (s : S) (n : ℕ) (k : Known) → proper s → rules.stop s ≡ None → k.outcome ≡ outcome n k.size → k.size ≡ rules.size s → fails k.outcome ≡ false
    → Leads rules plans proper s k
leads rules plans outcome proper laws s n k ok e known size f =
    let is : k.outcome ≡ outcome n (rules.size s) = known ∙ ap (outcome n) size in
    let passed : DoesNotFail k.outcome = none_of (cause_of k.outcome.verdict) f in
    let passed' : DoesNotFail (outcome n (rules.size s)) = subst (λ (o : Judged). DoesNotFail o) is passed in
    let P : Judged → Type 0 = λ o. proper (rules.step s o) in
    let Q : Judged → Type 0 = λ o. rules.rest (rules.step s o) < rules.rest s in
    let R : Judged → Type 0 = λ o. plans.plan (rules.step s o) ≡ plans.step (plans.plan s) (passes o) in
    let next : proper (rules.step s k.outcome) = subst P (sym is) (laws.run.keeps s n ok e passed') in
    let planned : plans.plan (rules.step s k.outcome) ≡ plans.step (plans.plan s) (passes k.outcome) = subst R (sym is) (laws.steps s n ok e passed') in
    let guessed : guess (Some k) ≡ passes k.outcome = or_false (passes k.outcome) (fails k.outcome) f in
    let planned' : plans.plan (rules.step s k.outcome) ≡ plans.step (plans.plan s) (guess (Some k)) = planned ∙ ap (plans.step (plans.plan s)) (sym guessed) in
    record {
      proper_next = next;
      falls = subst Q (sym is) (laws.run.falls s n ok e passed');
      planned = planned';
      open_next = λ h. laws.running (rules.step s k.outcome) next (ap plans.ends planned' ∙ h);
    }
  where
    or_false : (a b : Bool) → b ≡ false → (a || b) ≡ a
    or_false true b h = refl
    or_false false b h = h

-- what is folded at a slot that is kept, where the fold goes on
pub record Kept {S P : Type 0} (rules : Rules S) (plans : Plans S P) (outcome : ℕ → ℕ → Judged) (proper : S → Type 0) (s : S) (n : ℕ) (k : Known) (slots : List Slot) : Type 0 where
  pub size : k.size ≡ rules.size s
  pub passed : fails k.outcome ≡ false
  pub proper_next : proper (rules.step s k.outcome)
  pub falls : rules.rest (rules.step s k.outcome) < rules.rest s
  pub open_next : rules.stop (rules.step s k.outcome) ≡ None
  pub folded : fold plans (plans.plan s) (Some k ∷ slots) ≡ record { size = k.size; due = false } ∷ fold plans (plans.plan (rules.step s k.outcome)) slots

pub kept_goes_on : {S P : Type 0} (rules : Rules S) (plans : Plans S P) (outcome : ℕ → ℕ → Judged) (proper : S → Type 0) → Predicts rules plans outcome proper
    → (k : Known) (slots : List Slot) (s : S) (n : ℕ) → proper s → rules.stop s ≡ None → k.outcome ≡ outcome n k.size
    → is_due (Some k) (plans.size (plans.plan s)) ≡ false
    → (is_hit (Some k) (plans.size (plans.plan s)) || plans.ends (plans.step (plans.plan s) (guess (Some k)))) ≡ false
    → Kept rules plans outcome proper s n k slots
kept_goes_on rules plans outcome proper laws k slots s n ok e known kept h =
    let p = plans.plan s in
    let z = plans.size p in
    let same : rules.size s ≡ z = laws.sizes s ok e in
    let equal : (k.size == z) ≡ true = not_false (k.size == z) kept in
    let size : k.size ≡ z = sizes_equal k.size z equal in
    let hit : is_hit (Some k) z ≡ false = or_left _ (plans.ends (plans.step p (guess (Some k)))) h in
    let goes : plans.ends (plans.step p (guess (Some k))) ≡ false = or_right (is_hit (Some k) z) _ h in
    let passed : fails k.outcome ≡ false = and_right (k.size == z) (fails k.outcome) equal hit in
    let next : Leads rules plans proper s k = leads rules plans outcome proper laws s n k ok e known (size ∙ sym same) passed in
    let first : Folded = record { size = z; due = is_due (Some k) z } in
    let first' : Folded = record { size = k.size; due = false } in
    let is_first : first ≡ first' = rw (kept, size) refl in
    record {
      size = size ∙ sym same;
      passed = passed;
      proper_next = next.proper_next;
      falls = next.falls;
      open_next = next.open_next goes;
      folded = fold-goes_on plans p (Some k) slots h
          ∙ (ap (λ (f : Folded). f ∷ fold plans (plans.step p (guess (Some k))) slots) is_first
          ∙ ap (λ q. first' ∷ fold plans q slots) (sym next.planned));
    }
