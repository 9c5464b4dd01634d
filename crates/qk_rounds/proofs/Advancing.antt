-- How committed attempts add up to a run, whether they ran alone or in windows.
use Rattle.std.proofs.Common.{◌≡◌, ℕ, ◌+◌, ◌<◌, ◌≤◌, Option, Some, None, List, [], ◌∷◌, ◌++◌, length, take, refl, sym, ◌∙◌, ap, subst, arith, append_assoc, append-nil}
use Rattle.qk_base.specs.Judged.{Judged, DoesNotFail, cause_of}
use Rattle.qk_base.specs.declared.outcome.Cause.{Cause}
use Rattle.qk_schedule.specs.declared.stop.Stop.{Stop}
use Rattle.qk_schedule.specs.declared.finish.Finish.{Finish}
use Rattle.qk_schedule.specs.declared.finish.Finish.TheVariants.{Failed}
use Rattle.qk_schedule.specs.Course.{Rules, Plans}
use Rattle.qk_schedule.specs.Sequential.{Run, from, sequential, finish_of}
use Rattle.qk_schedule.proofs.SequentialRun.{from-stopped, from-failed, from-prefix}
use Rattle.qk_rounds.specs.declared.work.Work.{Work}
use Rattle.qk_rounds.specs.Advance.{Advances, Halts}
use Rattle.qk_rounds.specs.Trial.{Range, MayPrepare}
use Rattle.qk_rounds.specs.Windows.{Slot, folded_slots}
use Rattle.qk_rounds.specs.Work.{Committed, committed}
use Rattle.qk_rounds.specs.Commit.{IsCommit, StandsForPrefix}
use Rattle.qk_rounds.specs.Window.{known_in, IsWindow}
use Rattle.qk_rounds.specs.Run.{IsRun}
use Rattle.qk_rounds.proofs.CommitRun.{CommitsRun, GoesOnFrom, first_after, after_first, committed_run, committed_counts, known-take}
use Rattle.qk_rounds.proofs.Driving.{known-length, first_number}
use Rattle.qk_rounds.proofs.OneAttempt.{GoesOn}
use Rattle.qk_rounds.proofs.Predicts.{Predicts}

module _ {S : Type 0} (rules : Rules S) (outcome : ℕ → ℕ → Judged) (proper : S → Type 0) where
  pub stands_still : (st : List Judged → Type 0) (s : S) (n : ℕ) → proper s → Advances rules outcome proper st st s n s n None
  stands_still st s n ok = record {
    proper_next = λ _. ok;
    onward = λ _. omega arith;
    falls = λ _. omega arith;
    goes_on = λ _ done h. (done, h, refl);
    ends = λ why h. cc;
  }

  pub then_on : (old mid new : List Judged → Type 0) (s : S) (n : ℕ) (s1 : S) (n1 : ℕ) (s2 : S) (n2 : ℕ) (finish : Option Finish)
      → Advances rules outcome proper old mid s n s1 n1 None → Advances rules outcome proper mid new s1 n1 s2 n2 finish
      → Advances rules outcome proper old new s n s2 n2 finish
  then_on old mid new s n s1 n1 s2 n2 finish a b =
      let low = a.onward refl in
      let less = a.falls refl in
      record {
        proper_next = b.proper_next;
        onward = λ none. let more = b.onward none in omega (arith, low, more);
        falls = λ none. let more = b.falls none in omega (arith, less, more);
        goes_on = λ none done h.
            let first = a.goes_on refl done h in
            let next = b.goes_on none first.0 first.1 in
            (next.0, next.1, first.2 ∙ next.2);
        ends = λ why some done h.
            let first = a.goes_on refl done h in
            let next = b.ends why some first.0 first.1 in
            (next.0, next.1, first.2 ∙ next.2);
      }

  -- memory was wanted before anything was committed
  pub halts_here : (st : List Judged → Type 0) (s : S) (n : ℕ) → Halts rules outcome st st s n
  halts_here st s n = λ done h.
      let more = from-prefix rules outcome s n done in
      record { before = done; after = more.0; prefix = sym more.1; stood_for = h }

  pub halts_after : (old new : List Judged → Type 0) (s : S) (n : ℕ) → ((done : List Judged) → old done → new done) → Halts rules outcome old new s n
  halts_after old new s n keeps = λ done h.
      let more = from-prefix rules outcome s n done in
      record { before = done; after = more.0; prefix = sym more.1; stood_for = keeps done h }

  pub halts_on : (old mid new : List Judged → Type 0) (s : S) (n : ℕ) (s1 : S) (n1 : ℕ)
      → Advances rules outcome proper old mid s n s1 n1 None → Halts rules outcome mid new s1 n1 → Halts rules outcome old new s n
  halts_on old mid new s n s1 n1 a h = λ done stood.
      let first = a.goes_on refl done stood in
      subst (λ (r : Run S). StandsForPrefix new r.done) (sym first.2) (h first.0 first.1)

  pub attempt_failed : (st : List Judged → Type 0) (s : S) (n size m : ℕ) (cause : Cause)
      → rules.stop s ≡ None → size ≡ rules.size s → cause_of (outcome n size).verdict ≡ Some cause
      → Advances rules outcome proper st st s n s m (Some (Failed n size cause))
  attempt_failed st s n size m cause e is_size h =
      let h' : cause_of (outcome n (rules.size s)).verdict ≡ Some cause = ap (λ z. cause_of (outcome n z).verdict) (sym is_size) ∙ h in
      record {
        proper_next = λ none. cc;
        onward = λ none. cc;
        falls = λ none. cc;
        goes_on = λ none. cc;
        ends = λ why is done stood.
            let is' : why ≡ Failed n (rules.size s) cause = let same : Failed n size cause ≡ why = cc in sym same ∙ ap (λ z. Failed n z cause) is_size in
            (done, stood, rw is' (from-failed rules outcome s n done cause e h'));
      }

  pub attempt_passed : (old new : List Judged → Type 0) (s s' : S) (n : ℕ) (o : Judged)
      → GoesOn rules outcome proper s s' n o → ((done : List Judged) → old done → new (done ++ o ∷ []))
      → Advances rules outcome proper old new s n s' (n + 1) None
  attempt_passed old new s s' n o on adds = record {
    proper_next = λ _. on.proper_next;
    onward = λ _. omega arith;
    falls = λ _. let less = on.falls in omega (arith, less);
    goes_on = λ _ done h. (done ++ o ∷ [], adds done h, sym (on.same_run done));
    ends = λ why h. cc;
  }

  -- the run, where it has stopped
  pub run_stopped : (st : List Judged → Type 0) (s : S) (n : ℕ) (done : List Judged) (why : Stop) (finish : Finish)
      → st done → from rules outcome s n done ≡ sequential rules outcome → rules.stop s ≡ Some why → finish ≡ finish_of why
      → IsRun s finish (sequential rules outcome) × st (sequential rules outcome).done
  run_stopped st s n done why finish stood so_far e is =
      let run : sequential rules outcome ≡ record { finish = finish_of why; state = s; done = done } = sym so_far ∙ from-stopped rules outcome s n done why e in
      (record { state_is = sym (ap (λ r. r.state) run); finish_is = is ∙ sym (ap (λ r. r.finish) run) }, subst st (sym (ap (λ r. r.done) run)) stood)

  -- the run, where it has ended
  pub run_ended : (old new : List Judged → Type 0) (s : S) (n : ℕ) (done : List Judged) (s' : S) (next : ℕ) (finish : Option Finish) (why : Finish)
      → old done → from rules outcome s n done ≡ sequential rules outcome → Advances rules outcome proper old new s n s' next finish → finish ≡ Some why
      → IsRun s' why (sequential rules outcome) × new (sequential rules outcome).done
  run_ended old new s n done s' next finish why stood so_far advances is =
      let end = advances.ends why is done stood in
      let run : sequential rules outcome ≡ record { finish = why; state = s'; done = end.0 } = sym so_far ∙ end.2 in
      (record { state_is = sym (ap (λ r. r.state) run); finish_is = sym (ap (λ r. r.finish) run) }, subst new (sym (ap (λ r. r.done) run)) end.1)

  -- what was committed is a prefix of what the run commits
  committed_keeps : (s : S) (n : ℕ) (done : List Judged) (c : Committed S) (least : ℕ)
      → CommitsRun rules outcome proper s n done c least → (more : List Judged) × ((from rules outcome s n done).done ≡ c.done ++ more)
  committed_keeps s n done c least runs =
      elim c.finish as (λ f. c.finish ≡ f → (more : List Judged) × ((from rules outcome s n done).done ≡ c.done ++ more)) [
        | Some finish ↦ λ h. ([], ap (λ r. r.done) (runs.ends finish h) ∙ sym (append-nil c.done))
        | None ↦ λ h.
            let more = from-prefix rules outcome c.state c.next c.done in
            (more.0, ap (λ r. r.done) (runs.goes_on h).same ∙ more.1)
      ] refl

module _ {S P : Type 0} (rules : Rules S) (plans : Plans S P) (outcome outcome' : ℕ → ℕ → Judged) (proper : S → Type 0) (laws : Predicts rules plans outcome proper)
    (window : ℕ) (old new : List Judged → Type 0) (s : S) (n : ℕ) (before : Work) (slots these : List Slot) (count : ℕ) (work : Work)
    (ok : proper s) (e : rules.stop s ≡ None) (same : outcome' ≡ outcome) (w : IsWindow plans outcome' window s n before slots count work) (is : these ≡ take count slots) where
  w' : IsWindow plans outcome window s n before slots count work
  w' = subst (λ (o : ℕ → ℕ → Judged). IsWindow plans o window s n before slots count work) same w

  folded : these ≡ folded_slots plans (plans.plan s) slots
  folded = is ∙ ap (λ m. take m slots) w'.folded

  runs : (done : List Judged) → CommitsRun rules outcome proper s n done (committed rules these s n done) (first_after n slots)
  runs done = subst (λ (l : List Slot). CommitsRun rules outcome proper s n done (committed rules l s n done) (first_after n slots)) (sym folded)
      (committed_run rules plans outcome proper laws slots s n done ok e w'.knows w'.none_due)

  -- a window's commit
  module _ (s' : S) (next : ℕ) (finish : Option Finish) (commit : (done : List Judged) → IsCommit old new done (committed rules these s n done) s' next finish) where
    on : (done : List Judged) → finish ≡ None → GoesOnFrom rules outcome proper s n done (committed rules these s n done) (first_after n slots)
    on done none = (runs done).goes_on (sym (commit done).finish_is ∙ none)

    pub window_advances : Advances rules outcome proper old new s n s' next finish
    window_advances = record {
      proper_next = λ none. subst proper (sym (commit []).state_is) (on [] none).proper_next;
      onward = λ none. let far = (on [] none).onward in let first = after_first n slots in let next_is = (commit []).next_is in omega (arith, far, first, next_is);
      falls = λ none.
          let less = (on [] none).falls in
          let rest_is : rules.rest s' ≡ rules.rest (committed rules these s n []).state = ap rules.rest (commit []).state_is in
          let next_is = (commit []).next_is in
          omega (arith, less, rest_is, next_is);
      goes_on = λ none done stood.
          let c : Committed S = committed rules these s n done in
          let here = commit done in (
            c.done,
            here.tally stood,
            (on done none).same ∙ sym (ap (λ (x : S). from rules outcome x next c.done) here.state_is ∙ ap (λ (m : ℕ). from rules outcome c.state m c.done) here.next_is),
          );
      ends = λ why some done stood.
          let c : Committed S = committed rules these s n done in
          let here = commit done in (
            c.done,
            here.tally stood,
            (runs done).ends why (sym here.finish_is ∙ some) ∙ ap (λ (x : S). record { finish = why; state = x; done = c.done }) (sym here.state_is),
          );
    }

    -- the window is not empty, and ends where the next one may begin
    pub window_goes_on : 0 < window → finish ≡ None → (n < next) × ((prepared : Range) → prepared ≡ record { first = n; count = window } → MayPrepare prepared next)
    window_goes_on some none =
        let far = (on [] none).onward in
        let first = first_number n window slots some w'.same_length in
        let next_is = (commit []).next_is in
        let counts = committed_counts rules these s n [] in
        let known = subst (λ (l : List Slot). known_in l ≤ known_in slots) (sym is) (known-take count slots) in
        let most = known-length slots in
        let from_n : n < next = omega (arith, far, first, next_is) in
        let to_end : next ≤ n + window = omega (arith, counts.few, counts.numbers, known, most, w'.same_length, next_is) in
        (from_n, λ prepared p. rw p (record { at_first = λ z. absurd (omega (arith, z, some)); later = λ _. (omega (arith, from_n), to_end) }))

  -- what a commit has done where memory is wanted
  pub window_halts : ((done : List Judged) → old done → StandsForPrefix new (committed rules these s n done).done) → Halts rules outcome old new s n
  window_halts wanted = λ done stood.
      let c : Committed S = committed rules these s n done in
      let keeps = committed_keeps rules outcome proper s n done c (first_after n slots) (runs done) in
      let so_far : StandsForPrefix new c.done = wanted done stood in
      record {
        before = so_far.before;
        after = so_far.after ++ keeps.0;
        prefix = sym (append_assoc so_far.before so_far.after keeps.0) ∙ (ap (λ (l : List Judged). l ++ keeps.0) so_far.prefix ∙ sym keeps.1);
        stood_for = so_far.stood_for;
      }

-- one more attempt of a stretch, under another name of the outcomes
pub attempt_on : {S : Type 0} (rules : Rules S) (outcome outcome' : ℕ → ℕ → Judged) (proper : S → Type 0) (old mid new : List Judged → Type 0) (s : S) (n : ℕ) (s1 : S) (n1 : ℕ) (s2 : S) (n2 : ℕ) (finish : Option Finish)
    → outcome' ≡ outcome → Advances rules outcome proper old mid s n s1 n1 None → Advances rules outcome' proper mid new s1 n1 s2 n2 finish
    → Advances rules outcome proper old new s n s2 n2 finish
attempt_on rules outcome outcome' proper old mid new s n s1 n1 s2 n2 finish same a b =
    then_on rules outcome proper old mid new s n s1 n1 s2 n2 finish a (subst (λ (o : ℕ → ℕ → Judged). Advances rules o proper mid new s1 n1 s2 n2 finish) same b)

pub halts_further : {S : Type 0} (rules : Rules S) (outcome outcome' : ℕ → ℕ → Judged) (proper : S → Type 0) (old mid new : List Judged → Type 0) (s : S) (n : ℕ) (s1 : S) (n1 : ℕ)
    → outcome' ≡ outcome → Advances rules outcome proper old mid s n s1 n1 None → Halts rules outcome' mid new s1 n1 → Halts rules outcome old new s n
halts_further rules outcome outcome' proper old mid new s n s1 n1 same a h =
    halts_on rules outcome proper old mid new s n s1 n1 a (subst (λ (o : ℕ → ℕ → Judged). Halts rules o mid new s1 n1) same h)

-- after a stretch the next numbers may be prepared
pub prepares_next : (prepared : Range) (n count next : ℕ) → prepared ≡ record { first = n; count = count } → 0 < count → n ≤ next → next ≤ n + count → MayPrepare prepared next
prepares_next prepared n count next is some low high = rw is (record { at_first = λ z. absurd (omega (arith, z, some)); later = λ _. (low, high) })
