-- Sizes, steps, stops and the rest of attempts, in numbers.
use Rattle.std.specs.Prelude.{ℕ, ◌+◌, ◌-◌, ◌*◌, ◌/◌, ◌%◌, ◌<◌, ◌≤◌, ◌==◌, ◌||◌, nat_le, min, if◌then◌else◌, Option, Some, None}
use Rattle.qk_base.specs.Judged.{Judged, passes}
use Rattle.qk_schedule.specs.declared.limits.Limits.{Limits}
use Rattle.qk_schedule.specs.declared.stop.Stop.{Stop}
use Rattle.qk_schedule.specs.declared.stop.Stop.TheVariants.{Passed, GaveUp}
use Rattle.qk_schedule.specs.Counts.{Counts, raised}

-- the limits that a course may have
pub record InRange (limits : Limits) : Type 0 where
  pub some_success : 0 < limits.success
  pub success : limits.success ≤ 1_000_000
  pub some_ratio : 0 < limits.ratio
  pub ratio : limits.ratio ≤ 100
  pub some_size : 0 < limits.max_size
  pub max_size : limits.max_size ≤ 1000

-- after n successes and r recent discards; for 250 successes of size up to 100 and no discards: 0 to 99, 0 to 99, 0, 2, .. 98
abbrev pub size_at : Limits → ℕ → ℕ → ℕ
size_at limits n r =
    let most = limits.max_size in
    let wanted = limits.success in
    (if nat_le (n / most * most + most) wanted || nat_le wanted n || (wanted % most == 0)
    then min (n % most + r / 10) most
    else min (n % most * most / (wanted % most) + r / 10) most)

-- a run that has its successes has passed; else it gives up at so many discards
abbrev pub stop_at : Limits → Counts → Option Stop
stop_at limits c =
    (if nat_le limits.success c.successes then Some Passed
    else (if nat_le (limits.ratio * limits.success) c.discards then Some GaveUp else None))

-- a Pass is a success and counts its covers; what is no Pass is a discard
abbrev pub step_at : Counts → Judged → Counts
step_at c outcome =
    (if passes outcome
    then record { successes = c.successes + 1; discards = c.discards; recent = 0; covers = raised c.covers outcome.marks.covers }
    else record { successes = c.successes; discards = c.discards + 1; recent = c.recent + 1; covers = c.covers })

-- the attempts that may be left
abbrev pub rest_at : Limits → Counts → ℕ
rest_at limits c = (limits.success - c.successes) + (limits.ratio * limits.success - c.discards)
