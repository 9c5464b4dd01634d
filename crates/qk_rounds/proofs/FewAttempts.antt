-- A run has at most as many attempts as its rest.
use Rattle.std.proofs.Common.{◌≡◌, ◌↔◌, ℕ, zero, suc, ◌+◌, ◌≤◌, Some, None, List, [], ◌∷◌, ◌++◌, length, length-append, refl, arith}
use Rattle.qk_base.specs.Judged.{Judged, cause_of}
use Rattle.qk_schedule.specs.Course.{Rules, Plans, Lawful, TakesAll}
use Rattle.qk_schedule.specs.Sequential.{from_by, sequential}
use Rattle.qk_schedule.proofs.SequentialRun.{lawful_falls, from_by-stopped, from_by-failed, from_by-goes_on}
use Rattle.qk_rounds.specs.Run.{attempts}
use Rattle.qk_rounds.proofs.Driving.{failing-stopped}

module _ {S P : Type 0} (rules : Rules S) (plans : Plans S P) (takes : Judged → Type 0) (proper : S → Type 0) (goes_on : P → Type 0) (laws : Lawful rules plans takes proper goes_on) (outcome : ℕ → ℕ → Judged) (taken : TakesAll takes outcome) where
  attempts_by : (f : ℕ) (s : S) (k : ℕ) (done : List Judged) → proper s → attempts (from_by rules outcome f s k done) ≤ length done + rules.rest s
  attempts_by zero s k done ok = omega arith
  attempts_by (suc f) s k done ok =
      elim (rules.stop s) as (λ w. rules.stop s ≡ w → attempts (from_by rules outcome (suc f) s k done) ≤ length done + rules.rest s) [
        | Some why ↦ λ e. rw (from_by-stopped rules outcome f s k done why e) (let none = failing-stopped why in omega (arith, none))
        | None ↦ λ e. elim (cause_of (outcome k (rules.size s)).verdict) as (λ c. cause_of (outcome k (rules.size s)).verdict ≡ c → attempts (from_by rules outcome (suc f) s k done) ≤ length done + rules.rest s) [
          | Some cause ↦ λ h. rw (from_by-failed rules outcome f s k done cause e h) (let some = laws.rest_is_some s ok e in omega (arith, some))
          | None ↦ λ h.
              let falling = lawful_falls rules plans takes proper goes_on laws outcome taken in
              let falls = falling.falls s k ok e h in
              let later = attempts_by f (rules.step s (outcome k (rules.size s))) (k + 1) (done ++ outcome k (rules.size s) ∷ []) (falling.keeps s k ok e h) in
              let longer = length-append done (outcome k (rules.size s) ∷ []) in
              rw (from_by-goes_on rules outcome f s k done e h) (omega (arith, later, longer, falls))
        ] refl
      ] refl

  pub attempts_are_few : attempts (sequential rules outcome) ≤ rules.rest rules.start
  attempts_are_few = let all = attempts_by (suc (rules.rest rules.start)) rules.start 0 [] laws.start_is_proper in omega (arith, all)

pub both_ways : (a b c : Type 0) → (a ↔ b) → (b ↔ c) → (a ↔ c)
both_ways a b c f h = (λ x. h.0 (f.0 x), λ z. f.1 (h.1 z))
