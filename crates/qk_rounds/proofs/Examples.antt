-- The work of runs that were worked out by hand.
use Rattle.std.proofs.Common.{◌≡◌, ℕ, ◌==◌, if◌then◌else◌, [], refl}
use Rattle.qk_base.specs.Judged.{Judged}
use Rattle.qk_base.specs.declared.outcome.Verdict.{Verdict}
use Rattle.qk_base.specs.declared.outcome.Verdict.TheVariants.{Pass, Discard, Fail}
use Rattle.qk_base.specs.declared.outcome.Cause.TheVariants.{False}
use Rattle.qk_schedule.specs.declared.limits.Limits.{Limits}
use Rattle.qk_schedule.specs.Quick.{rules_of, plans_of}
use Rattle.qk_rounds.specs.declared.work.Work.{Work}
use Rattle.qk_rounds.specs.Work.{work_of}

abbrev usual : Limits
usual = record { success = 100; ratio = 10; max_size = 100; covers = 0 }

abbrev judged : Verdict → Judged
judged verdict = record { verdict = verdict; marks = record { label = []; classes = []; entries = []; covers = [] } }

-- size 1 is discarded, size 3 fails: attempts 1 to 10 have size 1, attempt 13 is the first of size 3
abbrev failing_work : ℕ → Work
failing_work = work_of (rules_of usual) (plans_of usual) (λ k size. judged (if size == 1 then Discard else (if size == 3 then Fail False else Pass)))

pub fails_in_windows_of_eight : failing_work 8 ≡ record { windows = 2; rounds = 11; trials = 30 }
fails_in_windows_of_eight = refl

pub fails_in_windows_of_one : failing_work 1 ≡ record { windows = 14; rounds = 14; trials = 14 }
fails_in_windows_of_one = refl

-- every attempt passes, so that no guess is wrong
abbrev passing_work : ℕ → Work
passing_work = work_of (rules_of usual) (plans_of usual) (λ k size. judged Pass)

pub passes_in_windows_of_64 : passing_work 64 ≡ record { windows = 2; rounds = 2; trials = 100 }
passes_in_windows_of_64 = refl
