-- The parts of a table that has rows.
use Rattle.std.proofs.Common.{◌≡◌, ◌∙◌, ◌<◌, ℕ, List, [], ◌∷◌, ◌++◌, ap, arith, length, map, sym, take}
use Rattle.std.proofs.lemmas.List.{length-map, take-map}
use Rattle.std.specs.List.{flat_map}
use Rattle.qk_report.specs.Lines.{line}
use Rattle.qk_report.specs.TableLines.{more_line, row_line, table_lines}
use Rattle.qk_report.specs.Tables.{Row, Text}

pub table_of : {X : Type 0} (f : X → Row) (title : Text) (total : ℕ) (rows : List X) → 0 < length rows
    → line title ++ flat_map (row_line total) (map f (take 200 rows)) ++ more_line (length rows) ≡ table_lines title total (map f rows)
table_of f title total [] some = absurd (omega arith)
table_of f title total (x ∷ xs) some =
    λ i. line title ++ flat_map (row_line total) (sym (take-map f 200 (x ∷ xs)) i) ++ more_line (sym (length-map (x ∷ xs) f) i)
