-- A window without due slots commits the next outcomes of the sequential run.
use Rattle.std.proofs.Common.{◌≡◌, ℕ, zero, suc, ◌+◌, ◌<◌, ◌≤◌, ◌==◌, true, false, ◌||◌, is_some, Option, Some, None, List, [], ◌∷◌, ◌++◌, length, take, refl, sym, ◌∙◌, ap, subst, arith, append_assoc, append-nil, length-append, ◌⊎◌, inl, inr}
use Rattle.qk_base.specs.Judged.{Judged, DoesNotFail, cause_of}
use Rattle.qk_base.specs.declared.outcome.Cause.{Cause}
use Rattle.qk_schedule.specs.declared.finish.Finish.{Finish}
use Rattle.qk_schedule.specs.declared.finish.Finish.TheVariants.{Failed}
use Rattle.qk_schedule.specs.Course.{Rules, Plans, TakesAll}
use Rattle.qk_schedule.specs.Sequential.{from}
use Rattle.qk_schedule.proofs.SequentialRun.{RestFalls, from-goes_on, from-failed}
use Rattle.qk_rounds.specs.declared.known.Known.{Known}
use Rattle.qk_rounds.specs.declared.folded.Folded.{Folded}
use Rattle.qk_rounds.specs.Windows.{Slot, fold, folded_slots, is_due, is_hit, guess, some_due}
use Rattle.qk_rounds.specs.Work.{Committed, committed}
use Rattle.qk_rounds.specs.Round.{Knows}
use Rattle.qk_rounds.specs.Commit.{Committable}
use Rattle.qk_rounds.specs.Window.{known_in}
use Rattle.qk_rounds.proofs.Steps.{fold-first, fold-last, or_left, not_false, sizes_equal}
use Rattle.qk_rounds.proofs.Stored.{knows_tail}
use Rattle.qk_rounds.proofs.Predicts.{Predicts, leads, Kept, kept_goes_on}

pub committed-failed : {S : Type 0} (rules : Rules S) (k : Known) (slots : List Slot) (s : S) (n : ℕ) (done : List Judged) (cause : Cause)
    → cause_of k.outcome.verdict ≡ Some cause
    → committed rules (Some k ∷ slots) s n done ≡ record { state = s; next = n; done = done; finish = Some (Failed n k.size cause) }
committed-failed rules k slots s n done cause h = rw (h, committed) refl

pub committed-goes_on : {S : Type 0} (rules : Rules S) (k : Known) (slots : List Slot) (s : S) (n : ℕ) (done : List Judged)
    → DoesNotFail k.outcome
    → committed rules (Some k ∷ slots) s n done ≡ committed rules slots (rules.step s k.outcome) (n + 1) (done ++ k.outcome ∷ [])
committed-goes_on rules k slots s n done h = rw (h, committed) refl

-- the slots that are folded after the first one, where it does not fail: none, or those of the next state
pub record Onward {S P : Type 0} (rules : Rules S) (plans : Plans S P) (slots rest : List Slot) (s' : S) : Type 0 where
  pub running : rules.stop s' ≡ None
  pub folded : rest ≡ folded_slots plans (plans.plan s') slots
  pub none_due : some_due (fold plans (plans.plan s') slots) ≡ false

-- the first slot that is folded, where none is due
pub record Head {S P : Type 0} (rules : Rules S) (plans : Plans S P) (outcome : ℕ → ℕ → Judged) (proper : S → Type 0) (s : S) (n : ℕ) (slot : Slot) (slots : List Slot) : Type 0 where
  pub known : Known
  pub is_known : slot ≡ Some known
  pub size : known.size ≡ rules.size s
  pub is_outcome : known.outcome ≡ outcome n known.size
  pub rest : List Slot
  pub folded : folded_slots plans (plans.plan s) (slot ∷ slots) ≡ Some known ∷ rest
  pub proper_next : DoesNotFail known.outcome → proper (rules.step s known.outcome)
  pub onward : DoesNotFail known.outcome → (rest ≡ []) ⊎ Onward rules plans slots rest (rules.step s known.outcome)

due_absurd : true ≡ false → ⊥
due_absurd h = cc

pub head_of : {S P : Type 0} (rules : Rules S) (plans : Plans S P) (outcome : ℕ → ℕ → Judged) (proper : S → Type 0) → Predicts rules plans outcome proper
    → (slot : Slot) (slots : List Slot) (s : S) (n : ℕ) → proper s → rules.stop s ≡ None → Knows outcome n (slot ∷ slots)
    → some_due (fold plans (plans.plan s) (slot ∷ slots)) ≡ false
    → Head rules plans outcome proper s n slot slots
head_of rules plans outcome proper laws None slots s n ok e known d =
    let first = fold-first plans (plans.plan s) None slots in
    absurd (due_absurd (ap some_due (sym first.1) ∙ d))
head_of rules plans outcome proper laws (Some k) slots s n ok e known d =
    let p = plans.plan s in
    let z = plans.size p in
    let s' = rules.step s k.outcome in
    let first = fold-first plans p (Some k) slots in
    let not_due : (is_due (Some k) z || some_due first.0) ≡ false = ap some_due (sym first.1) ∙ d in
    let kept : is_due (Some k) z ≡ false = or_left (is_due (Some k) z) (some_due first.0) not_due in
    let size : k.size ≡ rules.size s = sizes_equal k.size z (not_false (k.size == z) kept) ∙ sym (laws.sizes s ok e) in
    let rest : List Slot = take (length first.0) slots in
    let folded : folded_slots plans p (Some k ∷ slots) ≡ Some k ∷ rest = ap (λ (l : List Folded). take (length l) (Some k ∷ slots)) first.1 in
    record {
      known = k;
      is_known = refl;
      size = size;
      is_outcome = known.0;
      rest = rest;
      folded = folded;
      proper_next = λ passed. (leads rules plans outcome proper laws s n k ok e known.0 size (ap is_some passed)).proper_next;
      onward = λ passed.
          elim (is_hit (Some k) z || plans.ends (plans.step p (guess (Some k)))) as (λ b. (is_hit (Some k) z || plans.ends (plans.step p (guess (Some k)))) ≡ b → (rest ≡ []) ⊎ Onward rules plans slots rest s') [
            | true ↦ λ h. inl (tails k rest [] slots (sym folded ∙ ap (λ (l : List Folded). take (length l) (Some k ∷ slots)) (fold-last plans p (Some k) slots h)))
            | false ↦ λ h.
                let next : Kept rules plans outcome proper s n k slots = kept_goes_on rules plans outcome proper laws k slots s n ok e known.0 kept h in
                inr (record {
                  running = next.open_next;
                  folded = tails k rest (folded_slots plans (plans.plan s') slots) slots (sym folded ∙ ap (λ (l : List Folded). take (length l) (Some k ∷ slots)) next.folded);
                  none_due = sym (ap some_due next.folded) ∙ d;
                })
          ] refl;
    }
  where
    tails : (k' : Known) (a b more : List Slot) → (let l : List Slot = Some k' ∷ a in l) ≡ Some k' ∷ b → a ≡ b
    tails k' a b more h = cc

-- what was committed is the next part of the sequential run: it goes on from there, or ends there
pub record GoesOnFrom {S : Type 0} (rules : Rules S) (outcome : ℕ → ℕ → Judged) (proper : S → Type 0) (s : S) (n : ℕ) (done : List Judged) (c : Committed S) (least : ℕ) : Type 0 where
  pub same : from rules outcome s n done ≡ from rules outcome c.state c.next c.done
  pub proper_next : proper c.state
  pub falls : rules.rest c.state + c.next ≤ rules.rest s + n
  pub onward : least ≤ c.next

pub record CommitsRun {S : Type 0} (rules : Rules S) (outcome : ℕ → ℕ → Judged) (proper : S → Type 0) (s : S) (n : ℕ) (done : List Judged) (c : Committed S) (least : ℕ) : Type 0 where
  pub goes_on : c.finish ≡ None → GoesOnFrom rules outcome proper s n done c least
  pub ends : (finish : Finish) → c.finish ≡ Some finish → from rules outcome s n done ≡ record { finish = finish; state = c.state; done = c.done }

at_end : {S : Type 0} (rules : Rules S) (outcome : ℕ → ℕ → Judged) (proper : S → Type 0) (s : S) (n : ℕ) (done : List Judged) → proper s
    → CommitsRun rules outcome proper s n done (record { state = s; next = n; done = done; finish = None }) n
at_end rules outcome proper s n done ok = record {
  goes_on = λ _. record { same = refl; proper_next = ok; falls = omega arith; onward = omega arith };
  ends = λ finish h. cc;
}

at_fail : {S : Type 0} (rules : Rules S) (outcome : ℕ → ℕ → Judged) (proper : S → Type 0) (s : S) (n size least : ℕ) (done : List Judged) (cause : Cause)
    → rules.stop s ≡ None → size ≡ rules.size s → cause_of (outcome n size).verdict ≡ Some cause
    → CommitsRun rules outcome proper s n done (record { state = s; next = n; done = done; finish = Some (Failed n size cause) }) least
at_fail rules outcome proper s n size least done cause e is_size h =
    let h' : cause_of (outcome n (rules.size s)).verdict ≡ Some cause = ap (λ z. cause_of (outcome n z).verdict) (sym is_size) ∙ h in
    let failed = from-failed rules outcome s n done cause e h' in
    record {
      goes_on = λ none. cc;
      ends = λ finish is.
          let is' : finish ≡ Failed n (rules.size s) cause = let same : Failed n size cause ≡ finish = cc in sym same ∙ ap (λ z. Failed n z cause) is_size in
          rw is' failed;
    }

step_on : {S : Type 0} (rules : Rules S) (outcome : ℕ → ℕ → Judged) (proper : S → Type 0) → RestFalls rules outcome proper
    → (s : S) (n size : ℕ) (o : Judged) (done : List Judged) (c : Committed S) (least : ℕ)
    → n + 1 ≤ least → proper s → rules.stop s ≡ None → size ≡ rules.size s → o ≡ outcome n size → DoesNotFail o
    → CommitsRun rules outcome proper (rules.step s o) (n + 1) (done ++ o ∷ []) c least
    → CommitsRun rules outcome proper s n done c (n + 1)
step_on rules outcome proper laws s n size o done c least onward ok e is_size is_outcome passed next =
    let is : o ≡ outcome n (rules.size s) = is_outcome ∙ ap (outcome n) is_size in
    let passed' : DoesNotFail (outcome n (rules.size s)) = subst (λ (x : Judged). DoesNotFail x) is passed in
    let Q : Judged → Type 0 = λ x. from rules outcome s n done ≡ from rules outcome (rules.step s x) (n + 1) (done ++ x ∷ []) in
    let first : from rules outcome s n done ≡ from rules outcome (rules.step s o) (n + 1) (done ++ o ∷ []) = subst Q (sym is) (from-goes_on rules outcome proper laws s n done ok e passed') in
    let F : Judged → Type 0 = λ x. rules.rest (rules.step s x) < rules.rest s in
    let less : rules.rest (rules.step s o) < rules.rest s = subst F (sym is) (laws.falls s n ok e passed') in
    record {
      goes_on = λ none. let on = next.goes_on none in record {
        same = first ∙ on.same;
        proper_next = on.proper_next;
        falls = let more = on.falls in omega arith;
        onward = let more = on.onward in omega arith;
      };
      ends = λ finish h. first ∙ next.ends finish h;
    }

-- one past the first slot's number, where there is a slot
abbrev pub first_after : ℕ → List Slot → ℕ
first_after n [] = n
first_after n (slot ∷ slots) = n + 1

pub after_first : (n : ℕ) (slots : List Slot) → n ≤ first_after n slots
after_first n [] = omega arith
after_first n (slot ∷ slots) = omega arith

pub committed_run : {S P : Type 0} (rules : Rules S) (plans : Plans S P) (outcome : ℕ → ℕ → Judged) (proper : S → Type 0) → Predicts rules plans outcome proper
    → (slots : List Slot) (s : S) (n : ℕ) (done : List Judged) → proper s → rules.stop s ≡ None → Knows outcome n slots
    → some_due (fold plans (plans.plan s) slots) ≡ false
    → CommitsRun rules outcome proper s n done (committed rules (folded_slots plans (plans.plan s) slots) s n done) (first_after n slots)
committed_run rules plans outcome proper laws [] s n done ok e known d = at_end rules outcome proper s n done ok
committed_run {S = S} rules plans outcome proper laws (slot ∷ slots) s n done ok e known d =
    let head = head_of rules plans outcome proper laws slot slots s n ok e known d in
    let k = head.known in
    let s' = rules.step s k.outcome in
    let now = done ++ k.outcome ∷ [] in
    let P : Committed S → Type 0 = λ c. CommitsRun rules outcome proper s n done c (n + 1) in
    let these : committed rules (folded_slots plans (plans.plan s) (slot ∷ slots)) s n done ≡ committed rules (Some k ∷ head.rest) s n done
    = ap (λ (l : List Slot). committed rules l s n done) head.folded in
    elim (cause_of k.outcome.verdict) as (λ c. cause_of k.outcome.verdict ≡ c → P (committed rules (folded_slots plans (plans.plan s) (slot ∷ slots)) s n done)) [
      | Some cause ↦ λ h.
          subst P (sym (these ∙ committed-failed rules k head.rest s n done cause h))
          (at_fail rules outcome proper s n k.size (n + 1) done cause e head.size (ap (λ (o : Judged). cause_of o.verdict) (sym head.is_outcome) ∙ h))
      | None ↦ λ h.
          let these' : committed rules (folded_slots plans (plans.plan s) (slot ∷ slots)) s n done ≡ committed rules head.rest s' (n + 1) now
          = these ∙ committed-goes_on rules k head.rest s n done h in
          let proper_next = head.proper_next h in
          elim (head.onward h) as (λ _. P (committed rules (folded_slots plans (plans.plan s) (slot ∷ slots)) s n done)) [
            | inl empty ↦
                subst P (sym (these' ∙ ap (λ (l : List Slot). committed rules l s' (n + 1) now) empty))
                (step_on rules outcome proper laws.run s n k.size k.outcome done _ (n + 1) (omega arith) ok e head.size head.is_outcome h
                (at_end rules outcome proper s' (n + 1) now proper_next))
            | inr on ↦
                subst P (sym (these' ∙ ap (λ (l : List Slot). committed rules l s' (n + 1) now) on.folded))
                (step_on rules outcome proper laws.run s n k.size k.outcome done _ (first_after (n + 1) slots) (after_first (n + 1) slots) ok e head.size head.is_outcome h
                (committed_run rules plans outcome proper laws slots s' (n + 1) now proper_next on.running (knows_tail outcome n slot slots known) on.none_due))
          ]
    ] refl

-- its slots can be committed
pub committable : {S P : Type 0} (rules : Rules S) (plans : Plans S P) (outcome : ℕ → ℕ → Judged) (proper : S → Type 0) (takes : Judged → Type 0) → Predicts rules plans outcome proper
    → ((s : S) → proper s → rules.stop s ≡ None → rules.size s ≤ 1000) → TakesAll takes outcome
    → (slots : List Slot) (s : S) (n : ℕ) → proper s → rules.stop s ≡ None → Knows outcome n slots
    → some_due (fold plans (plans.plan s) slots) ≡ false
    → Committable rules proper takes (folded_slots plans (plans.plan s) slots) s
committable rules plans outcome proper takes laws small taken [] s n ok e known d = ok
committable rules plans outcome proper takes laws small taken (slot ∷ slots) s n ok e known d =
    let head = head_of rules plans outcome proper laws slot slots s n ok e known d in
    let k = head.known in
    let s' = rules.step s k.outcome in
    let fits : k.size ≤ 1000 = let most = small s ok e in omega (arith, most, head.size) in
    let take_it : DoesNotFail k.outcome → takes k.outcome = λ h. subst takes (sym head.is_outcome) (taken n k.size fits (subst (λ (x : Judged). DoesNotFail x) head.is_outcome h)) in
    subst (λ (l : List Slot). Committable rules proper takes l s) (sym head.folded) (
      ok,
      e,
      λ h. (
        take_it h,
        elim (head.onward h) as (λ _. Committable rules proper takes head.rest s') [
          | inl empty ↦ subst (λ (l : List Slot). Committable rules proper takes l s') (sym empty) (head.proper_next h)
          | inr on ↦ subst (λ (l : List Slot). Committable rules proper takes l s') (sym on.folded)
              (committable rules plans outcome proper takes laws small taken slots s' (n + 1) (head.proper_next h) on.running (knows_tail outcome n slot slots known) on.none_due)
        ],
      ),
    )

-- each committed slot was known, and the failing one too
abbrev pub ended : Option Finish → ℕ
ended None = 0
ended (Some finish) = 1

pub record Counts {S : Type 0} (n : ℕ) (done : List Judged) (known : ℕ) (c : Committed S) : Type 0 where
  pub few : length c.done + ended c.finish ≤ length done + known
  pub numbers : length c.done + n ≡ length done + c.next

pub committed_counts : {S : Type 0} (rules : Rules S) (slots : List Slot) (s : S) (n : ℕ) (done : List Judged)
    → Counts n done (known_in slots) (committed rules slots s n done)
committed_counts rules [] s n done = record { few = omega arith; numbers = refl }
committed_counts rules (None ∷ slots) s n done = record { few = omega arith; numbers = refl }
committed_counts {S = S} rules (Some k ∷ slots) s n done =
    let P : Committed S → Type 0 = λ c. Counts n done (suc (known_in slots)) c in
    elim (cause_of k.outcome.verdict) as (λ c. cause_of k.outcome.verdict ≡ c → P (committed rules (Some k ∷ slots) s n done)) [
      | Some cause ↦ λ h. subst P (sym (committed-failed rules k slots s n done cause h)) (record { few = omega arith; numbers = refl })
      | None ↦ λ h.
          let next = committed_counts rules slots (rules.step s k.outcome) (n + 1) (done ++ k.outcome ∷ []) in
          let longer = length-append done (k.outcome ∷ []) in
          subst P (sym (committed-goes_on rules k slots s n done h)) (record { few = omega (arith, next.few, longer); numbers = omega (arith, next.numbers, longer) })
    ] refl

-- no more of the first slots are known than of all
pub known-take : (n : ℕ) (slots : List Slot) → known_in (take n slots) ≤ known_in slots
known-take zero slots = omega arith
known-take (suc n) [] = omega arith
known-take (suc n) (None ∷ slots) = known-take n slots
known-take (suc n) (Some k ∷ slots) = let next = known-take n slots in omega (arith, next)

-- what was committed before stays at the front
pub committed-prefix : {S : Type 0} (rules : Rules S) (slots : List Slot) (s : S) (n : ℕ) (done : List Judged)
    → (more : List Judged) × ((committed rules slots s n done).done ≡ done ++ more)
committed-prefix rules [] s n done = ([], sym (append-nil done))
committed-prefix rules (None ∷ slots) s n done = ([], sym (append-nil done))
committed-prefix rules (Some k ∷ slots) s n done =
    elim (cause_of k.outcome.verdict) as (λ c. cause_of k.outcome.verdict ≡ c → (more : List Judged) × ((committed rules (Some k ∷ slots) s n done).done ≡ done ++ more)) [
      | Some cause ↦ λ h. ([], ap (λ c. c.done) (committed-failed rules k slots s n done cause h) ∙ sym (append-nil done))
      | None ↦ λ h.
          let next = committed-prefix rules slots (rules.step s k.outcome) (n + 1) (done ++ k.outcome ∷ []) in
          (k.outcome ∷ next.0, ap (λ c. c.done) (committed-goes_on rules k slots s n done h) ∙ (next.1 ∙ append_assoc done (k.outcome ∷ []) next.0))
    ] refl
