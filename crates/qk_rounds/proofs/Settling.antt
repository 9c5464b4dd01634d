-- How rounds add up to a settled window.
use Rattle.std.proofs.Common.{◌≡◌, ℕ, zero, suc, ◌+◌, ◌-◌, ◌<◌, ◌≤◌, true, false, ◌||◌, if◌then◌else◌, Some, None, List, [], ◌∷◌, length, replicate, refl, sym, ◌∙◌, ap, arith}
use Rattle.std.proofs.lemmas.List.{length-replicate}
use Rattle.qk_base.specs.Judged.{Judged}
use Rattle.qk_schedule.specs.Course.{Rules, Plans}
use Rattle.qk_rounds.specs.declared.folded.Folded.{Folded}
use Rattle.qk_rounds.specs.declared.work.Work.{Work}
use Rattle.qk_rounds.specs.Windows.{Slot, fold, is_hit, is_due, guess, answers_of, stored, some_due, repair, exact}
use Rattle.qk_rounds.specs.Work as work_specs
use Rattle.qk_rounds.specs.Work.{settled_by}
use Rattle.qk_rounds.specs.Round.{Knows, Repaired}
use Rattle.qk_rounds.specs.Window.{known_in, Settles, IsSettled, IsWindow}
use Rattle.qk_rounds.proofs.Steps.{stored-one, stored-none}
use Rattle.qk_rounds.proofs.Stored.{length-stored, exact-length, stored-empty, repair_knows, length-answers}
use Rattle.qk_rounds.proofs.Longer.{repair_longer}
use Rattle.qk_rounds.proofs.Predicts.{Predicts}

settled-none : {S P : Type 0} (plans : Plans S P) (outcome : ℕ → ℕ → Judged) (f : ℕ) (p : P) (n : ℕ) (slots : List Slot) (work : Work)
    → some_due (fold plans p slots) ≡ false
    → settled_by plans outcome f p n slots work ≡ record { slots = slots; work = work }
settled-none plans outcome zero p n slots work h = refl
settled-none plans outcome (suc f) p n slots work h = rw (h, settled_by) refl

settled-due : {S P : Type 0} (plans : Plans S P) (outcome : ℕ → ℕ → Judged) (f : ℕ) (p : P) (n : ℕ) (slots : List Slot) (work : Work)
    → some_due (fold plans p slots) ≡ true
    → settled_by plans outcome (suc f) p n slots work
    ≡ settled_by plans outcome f p n (repair plans outcome p n slots) (record { windows = work.windows; rounds = work.rounds + 1; trials = work.trials + length (answers_of outcome n (fold plans p slots)) })
settled-due plans outcome f p n slots work h = rw (h, settled_by) refl

-- one more round
pub told_on : {S P : Type 0} (rules : Rules S) (plans : Plans S P) (outcome : ℕ → ℕ → Judged) (s : S) (n : ℕ) (mid new : List Slot) (work : Work) (count done stored_count : ℕ) (whole : work_specs.Settled)
    → done < count → Repaired rules plans outcome s n mid new stored_count
    → settled_by plans outcome (count - done) (plans.plan s) n mid work ≡ whole
    → settled_by plans outcome (count - (done + 1)) (plans.plan s) n new (record { windows = work.windows; rounds = work.rounds + 1; trials = work.trials + stored_count }) ≡ whole
told_on rules plans outcome s n mid new work count done stored_count whole less r told =
    let one : count - done ≡ suc (count - (done + 1)) = omega arith in
    let told' : settled_by plans outcome (suc (count - (done + 1))) (plans.plan s) n mid work ≡ whole = ap (λ f. settled_by plans outcome f (plans.plan s) n mid work) (sym one) ∙ told in
    rw (r.slots, r.count_is) (sym (settled-due plans outcome (count - (done + 1)) (plans.plan s) n mid work r.due) ∙ told')

-- the slots are settled once none is due
pub settled_now : {S P : Type 0} (plans : Plans S P) (outcome : ℕ → ℕ → Judged) (s : S) (n : ℕ) (old new : List Slot) (before work : Work) (count f : ℕ)
    → count ≡ length old
    → settled_by plans outcome f (plans.plan s) n new work ≡ settled_by plans outcome count (plans.plan s) n old before
    → Settles plans outcome s n old new before work
    → IsSettled plans outcome s n old new before work
settled_now plans outcome s n old new before work count f is_count told settles =
    let end : settled_by plans outcome (length old) (plans.plan s) n old before ≡ record { slots = new; work = work }
    = ap (λ c. settled_by plans outcome c (plans.plan s) n old before) (sym is_count) ∙ (sym told ∙ settled-none plans outcome f (plans.plan s) n new work settles.none_due) in
    record { slots = ap (λ d. d.slots) end; work = ap (λ d. d.work) end; settles = settles }

-- once all slots are exact none is due
pub none_due_where_exact : {S P : Type 0} (rules : Rules S) (plans : Plans S P) (outcome : ℕ → ℕ → Judged) (proper : S → Type 0) → Predicts rules plans outcome proper
    → (slots : List Slot) (s : S) (n : ℕ) → proper s → rules.stop s ≡ None → Knows outcome n slots → length slots ≤ exact rules s slots
    → some_due (fold plans (plans.plan s) slots) ≡ false
none_due_where_exact rules plans outcome proper laws slots s n ok e known all =
    let p = plans.plan s in
    elim (some_due (fold plans p slots)) as (λ b. some_due (fold plans p slots) ≡ b → some_due (fold plans p slots) ≡ false) [
      | false ↦ λ h. h
      | true ↦ λ h.
          let more = repair_longer rules plans outcome proper laws slots s n ok e known h in
          let bound = exact-length rules s (repair plans outcome p n slots) in
          let same = length-stored (fold plans p slots) (answers_of outcome n (fold plans p slots)) slots in
          absurd (omega (arith, more, bound, same))
    ] refl

-- slots that are unknown know nothing wrong
pub knows_unknown : (outcome : ℕ → ℕ → Judged) (n count : ℕ) → Knows outcome n (replicate count None)
knows_unknown outcome n zero = tt
knows_unknown outcome n (suc count) = knows_unknown outcome (n + 1) count

pub none_known : (count : ℕ) → known_in (replicate count None) ≡ 0
none_known zero = refl
none_known (suc count) = none_known count

known_tail : (slot : Slot) (slots : List Slot) → known_in slots ≤ known_in (slot ∷ slots)
known_tail None slots = omega arith
known_tail (Some k) slots = omega arith

known_after : (slot : Slot) (more slots : List Slot) (n : ℕ) → known_in more ≤ known_in slots + n → known_in (slot ∷ more) ≤ known_in (slot ∷ slots) + n
known_after None more slots n h = h
known_after (Some k) more slots n h = omega arith

-- a round makes at most as many slots known as it stores answers
known-stored : (folded : List Folded) (answers : List Judged) (slots : List Slot) → known_in (stored folded answers slots) ≤ known_in slots + length answers
known-stored [] answers slots = omega arith
known-stored (f ∷ fs) answers [] = omega arith
known-stored (f ∷ fs) [] (slot ∷ slots) = let same = ap known_in (stored-empty (f ∷ fs) (slot ∷ slots)) in omega (arith, same)
known-stored (f ∷ fs) (a ∷ more) (slot ∷ slots) = elim f.due as (λ b. f.due ≡ b → known_in (stored (f ∷ fs) (a ∷ more) (slot ∷ slots)) ≤ known_in (slot ∷ slots) + length (a ∷ more)) [
  | true ↦ λ d.
      let next = known-stored fs more slots in
      let tail = known_tail slot slots in
      rw (stored-one f fs a more slot slots d) (omega (arith, next, tail))
  | false ↦ λ d.
      let next = known-stored fs (a ∷ more) slots in
      rw (stored-none f fs (a ∷ more) slot slots d) (known_after slot (stored fs (a ∷ more) slots) slots (length (a ∷ more)) next)
] refl

length-fold : {S P : Type 0} (plans : Plans S P) (p : P) (slots : List Slot) → length (fold plans p slots) ≤ length slots
length-fold plans p [] = omega arith
length-fold plans p (slot ∷ slots) =
    let next = length-fold plans (plans.step p (guess slot)) slots in
    let f : Folded = record { size = plans.size p; due = is_due slot (plans.size p) } in
    elim (is_hit slot (plans.size p) || plans.ends (plans.step p (guess slot))) as (λ b. length (if b then f ∷ [] else f ∷ fold plans (plans.step p (guess slot)) slots) ≤ suc (length slots)) [
      | true ↦ omega arith
      | false ↦ omega (arith, next)
    ]

-- what a round leaves as it was, and how much it adds
pub record Adds (outcome : ℕ → ℕ → Judged) (n : ℕ) (old new : List Slot) (count : ℕ) : Type 0 where
  pub same_length : length new ≡ length old
  pub knows : Knows outcome n new
  pub known : known_in new ≤ known_in old + count
  pub few : count ≤ length old

pub round_adds : {S P : Type 0} (rules : Rules S) (plans : Plans S P) (outcome : ℕ → ℕ → Judged) (s : S) (n : ℕ) (old new : List Slot) (count : ℕ)
    → Knows outcome n old → Repaired rules plans outcome s n old new count → Adds outcome n old new count
round_adds rules plans outcome s n old new count known r =
    let folded = fold plans (plans.plan s) old in
    let answers = answers_of outcome n folded in
    let more = known-stored folded answers old in
    let few = length-answers outcome n folded in
    let within = length-fold plans (plans.plan s) old in
    rw r.slots (record {
      same_length = length-stored folded answers old;
      knows = repair_knows outcome n folded old known;
      known = omega (arith, more, r.count_is);
      few = omega (arith, few, within, r.count_is);
    })

pub begun_window : {S P : Type 0} (plans : Plans S P) (outcome : ℕ → ℕ → Judged) (window : ℕ) (s : S) (n : ℕ) (before : Work) (old new : List Slot) (count : ℕ) (after : Work)
    → old ≡ replicate window None → count ≡ length (fold plans (plans.plan s) new)
    → IsSettled plans outcome s n old new (record { windows = before.windows + 1; rounds = before.rounds; trials = before.trials }) after
    → IsWindow plans outcome window s n before new count after
begun_window plans outcome window s n before old new count after unknown folded settled =
    let begun : Work = record { windows = before.windows + 1; rounds = before.rounds; trials = before.trials } in
    let many : length old ≡ window = ap length unknown ∙ length-replicate {A = Slot} window None in
    let whole : settled_by plans outcome (length old) (plans.plan s) n old begun ≡ settled_by plans outcome window (plans.plan s) n (replicate window None) begun
    = ap (λ m. settled_by plans outcome m (plans.plan s) n old begun) many ∙ ap (λ l. settled_by plans outcome window (plans.plan s) n l begun) unknown in
    let none : known_in old ≡ 0 = ap known_in unknown ∙ none_known window in
    let settles = settled.settles in
    record {
      slots = sym (ap (λ d. d.slots) whole) ∙ settled.slots;
      work = sym (ap (λ d. d.work) whole) ∙ settled.work;
      folded = folded;
      same_length = settles.same_length ∙ many;
      knows = settles.knows;
      none_due = settles.none_due;
      windows = settles.windows;
      rounds = omega (arith, settles.rounds, many);
      trials = omega (arith, settles.trials, many);
      stored = omega (arith, settles.stored, none);
    }
