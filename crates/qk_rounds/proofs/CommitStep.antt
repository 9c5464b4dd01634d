-- One slot of a commit.
use Rattle.std.proofs.Common.{◌≡◌, ℕ, ◌+◌, ◌<◌, ◌≤◌, Option, Some, None, List, [], ◌∷◌, ◌++◌, length, drop, get_or, slice_index_or, refl, sym, ◌∙◌, ap, subst, add-one, Result, Ok, Err, OnErr}
use Rattle.std.proofs.Math.Seq.{drop-cons}
use Rattle.std.proofs.lemmas.List.{drop_all}
use Rattle.qk_base.specs.Judged.{Judged, DoesNotFail, cause_of}
use Rattle.qk_base.specs.declared.outcome.Cause.{Cause}
use Rattle.qk_schedule.specs.declared.finish.Finish.{Finish}
use Rattle.qk_schedule.specs.declared.finish.Finish.TheVariants.{Failed}
use Rattle.qk_schedule.specs.Course.{Rules}
use Rattle.qk_rounds.specs.declared.known.Known.{Known}
use Rattle.qk_rounds.specs.Windows.{Slot}
use Rattle.qk_rounds.specs.Work.{Committed, committed}
use Rattle.qk_rounds.specs.Commit.{Committable, IsCommit, StandsForPrefix}
use Rattle.qk_rounds.proofs.CommitRun.{committed-failed, committed-goes_on, committed-prefix}

-- what is known of the slot at i
pub record At {S : Type 0} (rules : Rules S) (proper : S → Type 0) (takes : Judged → Type 0) (slots : List Slot) (i : ℕ) (s : S) (k : Known) : Type 0 where
  pub next : DoesNotFail k.outcome → Committable rules proper takes (drop (i + 1) slots) (rules.step s k.outcome)
  pub fails_at : (n : ℕ) (done : List Judged) (cause : Cause) → cause_of k.outcome.verdict ≡ Some cause
      → committed rules (drop i slots) s n done ≡ record { state = s; next = n; done = done; finish = Some (Failed n k.size cause) }
  pub goes_on : (n : ℕ) (done : List Judged) → DoesNotFail k.outcome
      → committed rules (drop i slots) s n done ≡ committed rules (drop (i + 1) slots) (rules.step s k.outcome) (n + 1) (done ++ k.outcome ∷ [])

pub known_at : {S : Type 0} (rules : Rules S) (proper : S → Type 0) (takes : Judged → Type 0) (slots : List Slot) (i : ℕ) (s : S) (k : Known) (d : Slot)
    → i < length slots → slice_index_or slots i d ≡ Some k → Committable rules proper takes (drop i slots) s → At rules proper takes slots i s k
known_at rules proper takes slots i s k d below is ready =
    let first : drop i slots ≡ get_or slots i d ∷ drop (i + 1) slots = rw add-one (drop-cons slots i d below) in
    let these : drop i slots ≡ Some k ∷ drop (i + 1) slots = first ∙ ap (λ (slot : Slot). slot ∷ drop (i + 1) slots) is in
    let ready' = subst (λ (l : List Slot). Committable rules proper takes l s) these ready in
    record {
      next = λ passed. (ready'.2 passed).1;
      fails_at = λ n done cause h. ap (λ (l : List Slot). committed rules l s n done) these ∙ committed-failed rules k (drop (i + 1) slots) s n done cause h;
      goes_on = λ n done passed. ap (λ (l : List Slot). committed rules l s n done) these ∙ committed-goes_on rules k (drop (i + 1) slots) s n done passed;
    }

pub committed_to : {S : Type 0} (old new : List Judged → Type 0) (done now : List Judged) (c : Committed S) (state : S) (next : ℕ) (finish : Option Finish)
    → (old done → new now) → c ≡ record { state = state; next = next; done = now; finish = finish } → IsCommit old new done c state next finish
committed_to old new done now c state next finish told is = record {
  state_is = sym (ap (λ x. x.state) is);
  next_is = sym (ap (λ x. x.next) is);
  finish_is = sym (ap (λ x. x.finish) is);
  tally = λ stood. subst new (sym (ap (λ x. x.done) is)) (told stood);
}

pub committed-end : {S : Type 0} (rules : Rules S) (slots : List Slot) (s : S) (n i : ℕ) (done : List Judged) → length slots ≤ i
    → committed rules (drop i slots) s n done ≡ record { state = s; next = n; done = done; finish = None }
committed-end rules slots s n i done h = let none : drop i slots ≡ [] = drop_all i slots h in rw none refl

-- what was committed so far is a prefix of what the slots commit
pub prefix_so_far : {S : Type 0} (rules : Rules S) (slots : List Slot) (s : S) (n : ℕ) (stands_for : List Judged → Type 0) (now : List Judged) (c : Committed S)
    → stands_for now → committed rules slots s n now ≡ c → StandsForPrefix stands_for c.done
prefix_so_far rules slots s n stands_for now c stood is =
    let more = committed-prefix rules slots s n now in
    record { before = now; after = more.0; prefix = sym more.1 ∙ ap (λ x. x.done) is; stood_for = stood }

pub on_err-always : {T E : Type 0} (r : Result T E) (P : Type 0) → P → OnErr r P
on_err-always (Ok x) P p = tt
on_err-always (Err e) P p = p
