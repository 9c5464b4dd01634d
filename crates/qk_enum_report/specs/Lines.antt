-- The lines of the report of an exhaustive run.
use Rattle.std.specs.Prelude.{ℕ, Bool, List, ◌++◌, codes, if◌then◌else◌}
use Rattle.qk_report.specs.Lines.{line, named}

-- how many cases were discarded
abbrev pub discards_text : ℕ → List ℕ
discards_text discards = named (codes ", ") discards ++ codes " discarded"

-- no case failed, of all cases or of the first ones
abbrev pub held_line : List ℕ → Bool → ℕ → ℕ → List ℕ
held_line name all looked discards =
    line (name ++ codes ": held in " ++ named (if all then codes "all " else codes "the first ") looked ++ codes " cases" ++ discards_text discards)

-- that case failed, after so many discarded ones
abbrev pub failed_line : List ℕ → ℕ → ℕ → List ℕ
failed_line name k discards = line (name ++ named (codes ": failed at case ") k ++ discards_text discards)

-- the last line: how many properties there were, and how many passed and failed
abbrev pub totals_line : ℕ → ℕ → ℕ → List ℕ
totals_line properties passed failed = line (named (codes "properties: ") properties ++ named (codes ", passed ") passed ++ named (codes ", failed ") failed)
