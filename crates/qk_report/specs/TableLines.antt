-- The lines of tables.
use Rattle.std.specs.Prelude.{ℕ, ◌+◌, ◌-◌, ◌*◌, ◌/◌, Bool, true, false, List, [], ◌∷◌, ◌++◌, codes, decimal, flat_map, length, map, nat_lt, replicate, take, if◌then◌else◌}
use Rattle.qk_base.specs.Judged.{Judged}
use Rattle.qk_core.specs.Properties.{PropertyData}
use Rattle.qk_report.specs.Lines.{line}
use Rattle.qk_report.specs.Tables.{Text, passing, distinct, table_names, Wanted, wanted_of, labels_of, classes_of, entries_of, covered, Row, rows_of}

-- the tables of a property
pub data Section : Type 0 where
  labels : Section
  classes : Section
  table : Text → Section

abbrev pub heading : Section → Text
heading labels = codes "labels:"
heading classes = codes "classes:"
heading (table name) = codes "table " ++ name ++ codes ":"

-- a number right in so many places
abbrev pub right : ℕ → ℕ → Text
right places n = replicate (places - length (decimal n)) 32 ++ decimal n

-- the whole percentage of a total
abbrev pub percentage : ℕ → ℕ → ℕ
percentage count total = count * 100 / total

abbrev pub row_line : ℕ → Row → Text
row_line total row = line (codes "  " ++ right 7 row.count ++ codes " " ++ right 3 (percentage row.count total) ++ codes "% " ++ row.text)

-- after 200 rows a line counts the others
abbrev pub more_line : ℕ → Text
more_line rows = if nat_lt 200 rows then line (codes "  and " ++ decimal (rows - 200) ++ codes " more") else []

-- a table without rows is not printed
abbrev pub table_lines : Text → ℕ → List Row → Text
table_lines title total [] = []
table_lines title total (row ∷ rows) = line title ++ flat_map (row_line total) (take 200 (row ∷ rows)) ++ more_line (length (row ∷ rows))

-- the percentage is not met; whole numbers are compared
abbrev pub is_missed : ℕ → ℕ → ℕ → Bool
is_missed count total percent = nat_lt (count * 100) (percent * total)

abbrev pub missed_text : Bool → Text
missed_text true = codes ", not met"
missed_text false = []

abbrev pub cover_line : ℕ → ℕ → Wanted → Text
cover_line count total wanted =
    line (codes "cover " ++ wanted.name ++ codes ": " ++ decimal count ++ codes " of " ++ decimal total ++ codes ", wanted " ++ decimal wanted.percent ++ codes "%"
    ++ missed_text (is_missed count total wanted.percent))

-- from the clause of that index on
abbrev pub cover_lines : ℕ → List Wanted → List Judged → Text
cover_lines i [] outcomes = []
cover_lines i (wanted ∷ others) outcomes = cover_line (covered i outcomes) (length (passing outcomes)) wanted ++ cover_lines (i + 1) others outcomes

-- the texts that a table counts
abbrev pub texts_in : PropertyData → List Judged → Section → List Text
texts_in p outcomes labels = labels_of outcomes
texts_in p outcomes classes = classes_of p outcomes
texts_in p outcomes (table name) = entries_of p name outcomes

-- what its percentages are of: the attempts, or the texts
abbrev pub total_of : PropertyData → List Judged → Section → ℕ
total_of p outcomes labels = length (passing outcomes)
total_of p outcomes classes = length (passing outcomes)
total_of p outcomes (table name) = length (entries_of p name outcomes)

abbrev pub section_lines : PropertyData → List Judged → Section → Text
section_lines p outcomes s = table_lines (heading s) (total_of p outcomes s) (rows_of (texts_in p outcomes s))

-- labels, classes, the tables in the order of their first clauses, and the covers
abbrev pub tables_text : PropertyData → List Judged → Text
tables_text p outcomes =
    section_lines p outcomes labels ++ section_lines p outcomes classes ++ flat_map (section_lines p outcomes) (map table (distinct (table_names p.marks)))
    ++ cover_lines 0 (wanted_of p.marks) outcomes
