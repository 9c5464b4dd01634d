-- How far an exhaustive run reaches.
use Rattle.std.specs.Prelude.{ℕ, ◌<◌, ◌≤◌}
use Rattle.qk_enum_report.specs.declared.settings.CaseSettings.{CaseSettings}

-- What a report depends on: the depth of values, the most cases of a property, and the units of fuel of each judging. It does not depend on the workers.
pub record Reach : Type 0 where
  pub depth : ℕ
  pub cases : ℕ
  pub fuel : ℕ

abbrev pub reach_of : CaseSettings → Reach
reach_of s = record { depth = s.depth; cases = s.cases; fuel = s.fuel }

pub record AreInRange (s : CaseSettings) : Type 0 where
  pub depth : s.depth ≤ 8
  pub cases : s.cases ≤ 1000000
  pub some_worker : 0 < s.workers
  pub workers : s.workers ≤ 64
