-- The file that is generated, and what is told of its run.
use Rattle.std.specs.Prelude.{ℕ, zero, suc, ◌+◌, ◌%◌, List, [], ◌∷◌, ◌++◌, codes}
use Rattle.qk_core.specs.Program.{ProgramData}
use Rattle.qk_core.specs.Properties.{PropertyData}
use Rattle.qk_property.specs.Running.{run_of}
use Rattle.qk_property.specs.Settings.{ReportSettings}
use Rattle.qk_report.specs.Lines.{line, named}
use Rattle.qk_rounds.specs.Run.{attempts}
use Rattle.qk_engine.specs.Program.{totals_line}

-- that a number is less than 5
abbrev pub number_asked : ℕ → List ℕ
number_asked n = named (codes "((x (choose ") n ++ named (codes " ") n ++ codes "))) (check (< x 5))"

-- that a list of so many items has less than 2
abbrev pub list_asked : ℕ → List ℕ
list_asked n = named (codes "((xs (vector ") n ++ codes " (choose 3 3)))) (check (< (length xs) 2))"

-- what is asked of property i, by the rest of i by 4
abbrev pub asked : ℕ → ℕ → List ℕ
asked zero i = codes "((x int)) (check (= x x))"
asked (suc zero) i = codes "((x size)) (given (= (mod x 2) 0)) (check (<= 0 x))"
asked (suc (suc zero)) i = number_asked (8 + i)
asked (suc (suc (suc n))) i = list_asked (2 + i % 50)

abbrev pub property_line : ℕ → List ℕ
property_line i = line (named (codes "(prop p") i ++ codes " (forall " ++ asked (i % 4) i ++ codes "))")

-- the lines of that many properties from that number on
abbrev pub lines_from : ℕ → ℕ → List ℕ
lines_from i zero = []
lines_from i (suc n) = property_line i ++ lines_from (i + 1) n

-- a line for each property
abbrev pub generated_file : ℕ → List ℕ
generated_file n = lines_from 0 n

-- the attempts of these properties, with those that failed
abbrev pub attempts_in : ReportSettings → ProgramData → List PropertyData → ℕ
attempts_in s c [] = 0
attempts_in s c (p ∷ ps) = attempts (run_of s c p) + attempts_in s c ps

abbrev pub all_attempts : ReportSettings → ProgramData → ℕ
all_attempts s c = attempts_in s c c.properties

-- how many properties were made, the attempts of all, and the last line of a report
abbrev pub generated_text : ReportSettings → ℕ → ProgramData → List ℕ
generated_text s n c = line (named (codes "generated: ") n) ++ line (named (codes "attempts: ") (all_attempts s c)) ++ totals_line s c
