-- The block of a property in the report of an exhaustive run.
use Rattle.std.specs.Prelude.{ℕ, Bool, List, [], ◌++◌, Option, Some, None, get_or, length, min, nat_le, take, unwrap_or}
use Rattle.std.specs.Option.{is_some}
use Rattle.qk_base.specs.Judged.{cause_of}
use Rattle.qk_base.specs.declared.outcome.Cause.TheVariants.{False}
use Rattle.qk_core.specs.Program.{ProgramData}
use Rattle.qk_core.specs.Properties.{PropertyData}
use Rattle.qk_exhaust.specs.Run.{walked}
use Rattle.qk_exhaust.specs.declared.walked.Walked.{Walked}
use Rattle.qk_report.specs.Lines.{cause_line, value_lines}
use Rattle.qk_series.specs.Cases.{CaseData, case_of}
use Rattle.qk_enum_report.specs.Lines.{held_line, failed_line}
use Rattle.qk_enum_report.specs.Reach.{Reach}
use Rattle.qk_enum_report.specs.Verdicts.{case_verdict, cases_of, verdicts_of}

-- the first case that fails among the first cases, or among all where there are no more, and how many before it, or of these, were discarded
abbrev pub walk_of : Reach → ProgramData → PropertyData → Walked
walk_of r c p = walked 0 0 (take r.cases (verdicts_of c p r.depth r.fuel))

abbrev pub fails : Reach → ProgramData → PropertyData → Bool
fails r c p = is_some (walk_of r c p).failed

-- the case of a number
abbrev pub case_at : Reach → ProgramData → PropertyData → ℕ → CaseData
case_at r c p k = case_of (get_or (cases_of c p r.depth) k [])

-- why a case fails, and its values, or those before the first that is too large
abbrev pub failure_lines : Reach → ProgramData → PropertyData → CaseData → List ℕ
failure_lines r c p case =
    cause_line (unwrap_or (cause_of (case_verdict c p r.fuel case)) False) (is_some case.crash) ++ value_lines c.kinds p.binders case.values

-- what is told of a walk: how many cases were discarded, and which case failed, if one did
abbrev pub block_from : Reach → ProgramData → PropertyData → ℕ → Option ℕ → List ℕ
block_from r c p discards None = held_line p.name (nat_le (length (cases_of c p r.depth)) r.cases) (min r.cases (length (cases_of c p r.depth))) discards
block_from r c p discards (Some k) = failed_line p.name k discards ++ failure_lines r c p (case_at r c p k)

abbrev pub block_of : Reach → ProgramData → PropertyData → List ℕ
block_of r c p = block_from r c p (walk_of r c p).discards (walk_of r c p).failed
