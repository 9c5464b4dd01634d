-- One more attempt of a run.
use Rattle.std.proofs.Common.{◌≡◌, ℕ, ◌+◌, ◌<◌, None, List, [], ◌∷◌, ◌++◌, sym}
use Rattle.qk_base.specs.Judged.{Judged, DoesNotFail}
use Rattle.qk_schedule.specs.Course.{Rules}
use Rattle.qk_schedule.specs.Sequential.{from}
use Rattle.qk_schedule.proofs.SequentialRun.{RestFalls, from-goes_on}

-- the run from a state on is the run from the next state on
pub record GoesOn {S : Type 0} (rules : Rules S) (outcome : ℕ → ℕ → Judged) (proper : S → Type 0) (s s' : S) (k : ℕ) (o : Judged) : Type 0 where
  pub proper_next : proper s'
  pub falls : rules.rest s' < rules.rest s
  pub same_run : (done : List Judged) → from rules outcome s' (k + 1) (done ++ o ∷ []) ≡ from rules outcome s k done

pub next_attempt : {S : Type 0} (rules : Rules S) (outcome : ℕ → ℕ → Judged) (proper : S → Type 0) → RestFalls rules outcome proper
    → (s s' : S) (k size : ℕ) (o : Judged) → proper s → rules.stop s ≡ None → size ≡ rules.size s → o ≡ outcome k size → DoesNotFail o → s' ≡ rules.step s o
    → GoesOn rules outcome proper s s' k o
next_attempt rules outcome proper laws s s' k size o ok running is_size is_outcome passed is_next =
    let passed' = rw (is_outcome, is_size) at passed in
    rw (is_next, is_outcome, is_size) (record {
      proper_next = laws.keeps s k ok running passed';
      falls = laws.falls s k ok running passed';
      same_run = λ done. sym (from-goes_on rules outcome proper laws s k done ok running passed');
    })
