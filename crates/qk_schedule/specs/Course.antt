-- What a course is, as plain data.
use Rattle.std.specs.Prelude.{◌≡◌, ℕ, ◌^◌, ◌<◌, ◌≤◌, Bool, false, Option, None}
use Rattle.qk_base.specs.Judged.{Judged, DoesNotFail, passes}
use Rattle.qk_schedule.specs.declared.stop.Stop.{Stop}

-- the states of a run: the first, the size of the next attempt, the state after its outcome, why a run stops there,
-- and how many attempts are left at most
pub record Rules (S : Type 0) : Type 0 where
  pub start : S
  pub size : S → ℕ
  pub step : S → Judged → S
  pub stop : S → Option Stop
  pub rest : S → ℕ

-- what predicts sizes: the plan of a state, its size, the plan after an attempt that passes or is discarded, and whether a run
-- may stop there
pub record Plans (S P : Type 0) : Type 0 where
  pub plan : S → P
  pub size : P → ℕ
  pub step : P → Bool → P
  pub ends : P → Bool

-- what every course keeps
pub record Lawful {S P : Type 0} (rules : Rules S) (plans : Plans S P) (takes : Judged → Type 0) (proper : S → Type 0) (goes_on : P → Type 0) : Type 0 where
  pub taken_does_not_fail : (o : Judged) → takes o → DoesNotFail o
  pub start_is_proper : proper rules.start
  pub step_is_proper : (s : S) (o : Judged) → proper s → rules.stop s ≡ None → takes o → proper (rules.step s o)
  pub rest_is_some : (s : S) → proper s → rules.stop s ≡ None → 0 < rules.rest s
  pub rest_is_bounded : (s : S) → proper s → rules.rest s ≤ 2 ^ 32
  pub rest_falls : (s : S) (o : Judged) → proper s → rules.stop s ≡ None → takes o → rules.rest (rules.step s o) < rules.rest s
  pub sizes_are_small : (p : P) → goes_on p → plans.size p ≤ 1000
  pub sizes_agree : (s : S) → proper s → rules.stop s ≡ None → rules.size s ≡ plans.size (plans.plan s)
  pub steps_agree : (s : S) (o : Judged) → proper s → rules.stop s ≡ None → takes o → plans.plan (rules.step s o) ≡ plans.step (plans.plan s) (passes o)
  pub runs_until_plan_ends : (s : S) → proper s → plans.ends (plans.plan s) ≡ false → rules.stop s ≡ None
  pub goes_on_where_running : (s : S) → proper s → rules.stop s ≡ None → goes_on (plans.plan s)
  pub goes_on_until_ends : (p : P) → plans.ends p ≡ false → goes_on p

-- each outcome that does not fail, at a size that a course gives, is taken
abbrev pub TakesAll : (Judged → Type 0) → (ℕ → ℕ → Judged) → Type 0
TakesAll takes outcome = (k size : ℕ) → size ≤ 1000 → DoesNotFail (outcome k size) → takes (outcome k size)
