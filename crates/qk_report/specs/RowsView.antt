-- The rows that the counts of tables give.
use Rattle.std.specs.Prelude.{ℕ, ◌-◌, ◌^◌, ◌<◌, List, ◌∷◌, [], Option, Some, None, filter_map, nat_lt, if◌then◌else◌}
use Rattle.std.specs.Str.{bytes_eq}
use Rattle.qk_report.specs.Counted.{Key, label, class, entry, entries, cover, count_of, key_in}
use Rattle.qk_report.specs.TableLines as lines
use Rattle.qk_report.specs.Tables.{Row, Text}
use Rattle.qk_report.specs.declared.rows.RowRef.{RowRef}
use Rattle.qk_report.specs.declared.rows.Section.{Section}
use Rattle.qk_report.specs.declared.rows.Section.TheVariants as sections
use Rattle.qk_report.specs.declared.tables.Tables.{Tables}

abbrev pub row_behind : RowRef → Row
row_behind row = record { count = row.count.0; text = row.text.now }

abbrev pub section_in : Section → lines.Section
section_in sections.Labels = lines.labels
section_in sections.Classes = lines.classes
section_in (sections.Table name) = lines.table name.now

-- the text of a table that a key counts
abbrev pub text_under : lines.Section → Key → Option Text
text_under lines.labels (label text) = Some text
text_under lines.classes (class name) = Some name
text_under (lines.table name) (entry other text) = if bytes_eq name other then Some text else None
text_under s key = None

-- the row of a table that a count gives; a count of 0 gives none
abbrev pub row_under : lines.Section → Key → ℕ → Option Row
row_under s key count = if nat_lt 0 count then elim (text_under s key) [ None ↦ None | Some text ↦ Some (record { count = count; text = text }) ] else None

-- the rows of a table in the order in which they came up
abbrev pub rows_in : Tables → lines.Section → List Row
rows_in tables s = filter_map (λ e. row_under s (key_in e.0) e.1) tables.counts.entries

-- no count has come to 2^64 - 1, where counts stand still
abbrev pub NoneStandsStill : Tables → Type 0
NoneStandsStill tables = (key : Key) → count_of tables key < 2 ^ 64 - 1
