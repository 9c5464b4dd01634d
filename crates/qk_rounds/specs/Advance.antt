-- Attempts that were committed in order from a state on.
use Rattle.std.specs.Prelude.{◌≡◌, ℕ, ◌+◌, ◌≤◌, Option, Some, None, List}
use Rattle.qk_base.specs.Judged.{Judged}
use Rattle.qk_schedule.specs.declared.finish.Finish.{Finish}
use Rattle.qk_schedule.specs.Course.{Rules}
use Rattle.qk_schedule.specs.Sequential.{from}
use Rattle.qk_rounds.specs.Commit.{StandsForPrefix}

module _ {S : Type 0} (rules : Rules S) (outcome : ℕ → ℕ → Judged) where
  -- The run from a state and attempt n on came to another state and attempt, or it ended there. A tally that stood for what was done
  -- before stands for that with what was committed since.
  pub record Advances (proper : S → Type 0) (old new : List Judged → Type 0) (s : S) (n : ℕ) (s' : S) (next : ℕ) (finish : Option Finish) : Type 0 where
    pub proper_next : finish ≡ None → proper s'
    pub onward : finish ≡ None → n ≤ next
    pub falls : finish ≡ None → rules.rest s' + next ≤ rules.rest s + n
    pub goes_on : finish ≡ None → (done : List Judged) → old done → (now : List Judged) × new now × (from rules outcome s n done ≡ from rules outcome s' next now)
    pub ends : (why : Finish) → finish ≡ Some why → (done : List Judged) → old done
        → (now : List Judged) × new now × (from rules outcome s n done ≡ record { finish = why; state = s'; done = now })

  -- memory was wanted: the tally stands for some of what the run commits from there, from the first on
  abbrev pub Halts : (List Judged → Type 0) → (List Judged → Type 0) → S → ℕ → Type 0
  Halts old new s n = (done : List Judged) → old done → StandsForPrefix new (from rules outcome s n done).done
