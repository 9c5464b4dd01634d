-- The sequential run, line by line, for any fuel that is enough.
use Rattle.std.proofs.Common.{◌≡◌, ℕ, zero, suc, ◌+◌, ◌<◌, ◌≤◌, Some, None, List, [], ◌∷◌, ◌++◌, length, refl, sym, ◌∙◌, ap, subst, arith, append_assoc, append-nil, length-append}
use Rattle.qk_base.specs.Judged.{Judged, cause_of, DoesNotFail}
use Rattle.qk_base.specs.declared.outcome.Cause.{Cause}
use Rattle.qk_schedule.specs.declared.stop.Stop.{Stop}
use Rattle.qk_schedule.specs.declared.finish.Finish.TheVariants.{Failed}
use Rattle.qk_schedule.specs.Course.{Rules, Plans, Lawful, TakesAll}
use Rattle.qk_schedule.specs.Sequential.{finish_of, from_by, from}

-- each attempt that does not fail keeps a state proper, and makes the rest of attempts smaller
pub record RestFalls {S : Type 0} (rules : Rules S) (outcome : ℕ → ℕ → Judged) (proper : S → Type 0) : Type 0 where
  pub keeps : (s : S) (k : ℕ) → proper s → rules.stop s ≡ None → DoesNotFail (outcome k (rules.size s)) → proper (rules.step s (outcome k (rules.size s)))
  pub falls : (s : S) (k : ℕ) → proper s → rules.stop s ≡ None → DoesNotFail (outcome k (rules.size s)) → rules.rest (rules.step s (outcome k (rules.size s))) < rules.rest s

-- each size of a run is at most 1,000
pub size_is_small : {S P : Type 0} (rules : Rules S) (plans : Plans S P) (takes : Judged → Type 0) (proper : S → Type 0) (goes_on : P → Type 0)
    → Lawful rules plans takes proper goes_on → (s : S) → proper s → rules.stop s ≡ None → rules.size s ≤ 1000
size_is_small rules plans takes proper goes_on laws s ok running =
    subst (λ (n : ℕ). n ≤ 1000) (sym (laws.sizes_agree s ok running)) (laws.sizes_are_small (plans.plan s) (laws.goes_on_where_running s ok running))

-- a course that takes the outcomes has a rest that falls
pub lawful_falls : {S P : Type 0} (rules : Rules S) (plans : Plans S P) (takes : Judged → Type 0) (proper : S → Type 0) (goes_on : P → Type 0)
    → Lawful rules plans takes proper goes_on → (outcome : ℕ → ℕ → Judged) → TakesAll takes outcome → RestFalls rules outcome proper
lawful_falls rules plans takes proper goes_on laws outcome taken = record {
  keeps = λ s k ok running passed. laws.step_is_proper s _ ok running (taken k (rules.size s) (size_is_small rules plans takes proper goes_on laws s ok running) passed);
  falls = λ s k ok running passed. laws.rest_falls s _ ok running (taken k (rules.size s) (size_is_small rules plans takes proper goes_on laws s ok running) passed);
}

pub from_by-stopped : {S : Type 0} (rules : Rules S) (outcome : ℕ → ℕ → Judged) (f : ℕ) (s : S) (k : ℕ) (done : List Judged) (why : Stop)
    → rules.stop s ≡ Some why
    → from_by rules outcome (suc f) s k done ≡ record { finish = finish_of why; state = s; done = done }
from_by-stopped rules outcome f s k done why e = rw (e, from_by) refl

pub from_by-failed : {S : Type 0} (rules : Rules S) (outcome : ℕ → ℕ → Judged) (f : ℕ) (s : S) (k : ℕ) (done : List Judged) (cause : Cause)
    → rules.stop s ≡ None → cause_of (outcome k (rules.size s)).verdict ≡ Some cause
    → from_by rules outcome (suc f) s k done ≡ record { finish = Failed k (rules.size s) cause; state = s; done = done }
from_by-failed rules outcome f s k done cause e h = rw (e, h, from_by) refl

pub from_by-goes_on : {S : Type 0} (rules : Rules S) (outcome : ℕ → ℕ → Judged) (f : ℕ) (s : S) (k : ℕ) (done : List Judged)
    → rules.stop s ≡ None → DoesNotFail (outcome k (rules.size s))
    → from_by rules outcome (suc f) s k done ≡ from_by rules outcome f (rules.step s (outcome k (rules.size s))) (k + 1) (done ++ outcome k (rules.size s) ∷ [])
from_by-goes_on rules outcome f s k done e h = rw (e, h, from_by) refl

-- any fuel above the rest gives the same run
pub from_by-enough : {S : Type 0} (rules : Rules S) (outcome : ℕ → ℕ → Judged) (proper : S → Type 0) → RestFalls rules outcome proper
    → (f g : ℕ) (s : S) (k : ℕ) (done : List Judged) → proper s → rules.rest s < f → rules.rest s < g
    → from_by rules outcome f s k done ≡ from_by rules outcome g s k done
from_by-enough rules outcome proper laws zero g s k done ok hf hg = absurd (omega arith)
from_by-enough rules outcome proper laws (suc f) zero s k done ok hf hg = absurd (omega arith)
from_by-enough rules outcome proper laws (suc f) (suc g) s k done ok hf hg =
    elim (rules.stop s) as (λ w. rules.stop s ≡ w → from_by rules outcome (suc f) s k done ≡ from_by rules outcome (suc g) s k done) [
      | Some why ↦ λ e. from_by-stopped rules outcome f s k done why e ∙ sym (from_by-stopped rules outcome g s k done why e)
      | None ↦ λ e. elim (cause_of (outcome k (rules.size s)).verdict) as (λ c. cause_of (outcome k (rules.size s)).verdict ≡ c → from_by rules outcome (suc f) s k done ≡ from_by rules outcome (suc g) s k done) [
        | Some cause ↦ λ h. from_by-failed rules outcome f s k done cause e h ∙ sym (from_by-failed rules outcome g s k done cause e h)
        | None ↦ λ h.
            let falls = laws.falls s k ok e h in
            from_by-goes_on rules outcome f s k done e h
            ∙ (from_by-enough rules outcome proper laws f g (rules.step s (outcome k (rules.size s))) (k + 1) (done ++ outcome k (rules.size s) ∷ []) (laws.keeps s k ok e h) (omega arith) (omega arith)
            ∙ sym (from_by-goes_on rules outcome g s k done e h))
      ] refl
    ] refl

-- the run ends where it stops
pub from-stopped : {S : Type 0} (rules : Rules S) (outcome : ℕ → ℕ → Judged) (s : S) (k : ℕ) (done : List Judged) (why : Stop)
    → rules.stop s ≡ Some why → from rules outcome s k done ≡ record { finish = finish_of why; state = s; done = done }
from-stopped rules outcome s k done why e = from_by-stopped rules outcome (rules.rest s) s k done why e

-- the run ends at an attempt that fails
pub from-failed : {S : Type 0} (rules : Rules S) (outcome : ℕ → ℕ → Judged) (s : S) (k : ℕ) (done : List Judged) (cause : Cause)
    → rules.stop s ≡ None → cause_of (outcome k (rules.size s)).verdict ≡ Some cause
    → from rules outcome s k done ≡ record { finish = Failed k (rules.size s) cause; state = s; done = done }
from-failed rules outcome s k done cause e h = from_by-failed rules outcome (rules.rest s) s k done cause e h

-- the run goes on after an attempt that does not fail
pub from-goes_on : {S : Type 0} (rules : Rules S) (outcome : ℕ → ℕ → Judged) (proper : S → Type 0) → RestFalls rules outcome proper
    → (s : S) (k : ℕ) (done : List Judged) → proper s → rules.stop s ≡ None → DoesNotFail (outcome k (rules.size s))
    → from rules outcome s k done ≡ from rules outcome (rules.step s (outcome k (rules.size s))) (k + 1) (done ++ outcome k (rules.size s) ∷ [])
from-goes_on rules outcome proper laws s k done ok e h =
    let falls = laws.falls s k ok e h in
    from_by-goes_on rules outcome (rules.rest s) s k done e h
    ∙ from_by-enough rules outcome proper laws (rules.rest s) (suc (rules.rest (rules.step s (outcome k (rules.size s))))) (rules.step s (outcome k (rules.size s))) (k + 1) (done ++ outcome k (rules.size s) ∷ []) (laws.keeps s k ok e h) falls (omega arith)

-- what was committed before stays at the front
pub from_by-prefix : {S : Type 0} (rules : Rules S) (outcome : ℕ → ℕ → Judged) (f : ℕ) (s : S) (k : ℕ) (done : List Judged)
    → (more : List Judged) × ((from_by rules outcome f s k done).done ≡ done ++ more)
from_by-prefix rules outcome zero s k done = ([], sym (append-nil done))
from_by-prefix rules outcome (suc f) s k done =
    elim (rules.stop s) as (λ w. rules.stop s ≡ w → (more : List Judged) × ((from_by rules outcome (suc f) s k done).done ≡ done ++ more)) [
      | Some why ↦ λ e. ([], ap (λ r. r.done) (from_by-stopped rules outcome f s k done why e) ∙ sym (append-nil done))
      | None ↦ λ e. elim (cause_of (outcome k (rules.size s)).verdict) as (λ c. cause_of (outcome k (rules.size s)).verdict ≡ c → (more : List Judged) × ((from_by rules outcome (suc f) s k done).done ≡ done ++ more)) [
        | Some cause ↦ λ h. ([], ap (λ r. r.done) (from_by-failed rules outcome f s k done cause e h) ∙ sym (append-nil done))
        | None ↦ λ h.
            let next = from_by-prefix rules outcome f (rules.step s (outcome k (rules.size s))) (k + 1) (done ++ outcome k (rules.size s) ∷ []) in (
              outcome k (rules.size s) ∷ next.0,
              ap (λ r. r.done) (from_by-goes_on rules outcome f s k done e h)
                  ∙ (next.1 ∙ append_assoc done (outcome k (rules.size s) ∷ []) next.0),
            )
      ] refl
    ] refl

pub from-prefix : {S : Type 0} (rules : Rules S) (outcome : ℕ → ℕ → Judged) (s : S) (k : ℕ) (done : List Judged)
    → (more : List Judged) × ((from rules outcome s k done).done ≡ done ++ more)
from-prefix rules outcome s k done = from_by-prefix rules outcome (suc (rules.rest s)) s k done

-- the run commits at most as many outcomes as the rest of attempts
pub from_by-short : {S : Type 0} (rules : Rules S) (outcome : ℕ → ℕ → Judged) (proper : S → Type 0) → RestFalls rules outcome proper
    → (f : ℕ) (s : S) (k : ℕ) (done : List Judged) → proper s → length (from_by rules outcome f s k done).done ≤ length done + rules.rest s
from_by-short rules outcome proper laws zero s k done ok = omega arith
from_by-short rules outcome proper laws (suc f) s k done ok =
    elim (rules.stop s) as (λ w. rules.stop s ≡ w → length (from_by rules outcome (suc f) s k done).done ≤ length done + rules.rest s) [
      | Some why ↦ λ e. rw (from_by-stopped rules outcome f s k done why e) (omega arith)
      | None ↦ λ e. elim (cause_of (outcome k (rules.size s)).verdict) as (λ c. cause_of (outcome k (rules.size s)).verdict ≡ c → length (from_by rules outcome (suc f) s k done).done ≤ length done + rules.rest s) [
        | Some cause ↦ λ h. rw (from_by-failed rules outcome f s k done cause e h) (omega arith)
        | None ↦ λ h.
            let falls = laws.falls s k ok e h in
            let later = from_by-short rules outcome proper laws f (rules.step s (outcome k (rules.size s))) (k + 1) (done ++ outcome k (rules.size s) ∷ []) (laws.keeps s k ok e h) in
            let longer = length-append done (outcome k (rules.size s) ∷ []) in
            rw (from_by-goes_on rules outcome f s k done e h) (omega (arith, later, longer, falls))
      ] refl
    ] refl
