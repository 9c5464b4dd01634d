-- The verdicts of the cases of a property.
use Rattle.std.specs.Prelude.{ℕ, List, map, Some, None}
use Rattle.qk_base.specs.declared.outcome.Verdict.{Verdict}
use Rattle.qk_base.specs.declared.outcome.Verdict.TheVariants.{Fail}
use Rattle.qk_command.specs.Judging.{judged}
use Rattle.qk_core.specs.Program.{ProgramData}
use Rattle.qk_core.specs.Properties.{PropertyData}
use Rattle.qk_series.specs.Cases.{CaseData, case_of, cases}
use Rattle.qk_value.specs.Data.{Data}
use Rattle.qk_value.specs.Kinds.{KindData}

-- a value that is too large fails as one whose drawing crashed; else the values are judged with that many units of fuel
abbrev pub case_verdict : ProgramData → PropertyData → ℕ → CaseData → Verdict
case_verdict c p fuel case = elim case.crash [ None ↦ (judged c p case.values fuel).verdict | Some cause ↦ Fail cause ]

-- the cases of a property up to a depth over a table of user types, generators being left aside; and their verdicts, in the order of the enumeration
abbrev pub cases_over : List KindData → PropertyData → ℕ → List (List Data)
cases_over kinds p depth = cases kinds depth p.binders

abbrev pub verdicts_over : List KindData → ProgramData → PropertyData → ℕ → ℕ → List Verdict
verdicts_over kinds c p depth fuel = map (λ xs. case_verdict c p fuel (case_of xs)) (cases_over kinds p depth)

-- .. of a program
abbrev pub cases_of : ProgramData → PropertyData → ℕ → List (List Data)
cases_of c p depth = cases_over c.kinds p depth

abbrev pub verdicts_of : ProgramData → PropertyData → ℕ → ℕ → List Verdict
verdicts_of c p depth fuel = verdicts_over c.kinds c p depth fuel
