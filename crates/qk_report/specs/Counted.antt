-- What tables count, and which outcomes they stand for.
use Rattle.std.specs.Prelude.{◌≡◌, ℕ, ◌+◌, ◌-◌, ◌^◌, Bool, false, ◌&&◌, ◌==◌, List, Option, count_by, is_some, length, min, unwrap_or}
use Rattle.std.specs.Str.{bytes_eq}
use Rattle.indexmap.specs.IndexMap.{get_by}
use Rattle.qk_base.specs.Judged.{Judged, Marked}
use Rattle.qk_base.specs.declared.outcome.Verdict.TheVariants.{Pass, Discard, Fail}
use Rattle.qk_core.specs.Properties.{PropertyData}
use Rattle.qk_report.specs.Tables.{Text, times, class_names, table_names, wanted_of, labels_of, classes_of, entries_of, covered}
use Rattle.qk_report.specs.declared.counted.Counted.{Counted}
use Rattle.qk_report.specs.declared.counted.Counted.TheVariants as counted
use Rattle.qk_report.specs.declared.tables.Tables.{Tables}

-- what is counted: a label, a class, a text of a table, all texts of a table, a cover clause by its index
pub data Key : Type 0 where
  label : Text → Key
  class : Text → Key
  entry : Text → Text → Key
  entries : Text → Key
  cover : ℕ → Key

abbrev pub key_in : Counted → Key
key_in (counted.Label text) = label text.items
key_in (counted.Class name) = class name.now
key_in (counted.Entry name text) = entry name.now text.items
key_in (counted.Entries name) = entries name.now
key_in (counted.Cover i) = cover i

abbrev pub key_eq : Key → Key → Bool
key_eq (label a) (label b) = bytes_eq a b
key_eq (class a) (class b) = bytes_eq a b
key_eq (entry a s) (entry b t) = bytes_eq a b && bytes_eq s t
key_eq (entries a) (entries b) = bytes_eq a b
key_eq (cover i) (cover j) = i == j
key_eq a b = false

-- how often it came up in a list of outcomes
abbrev pub count_over : PropertyData → List Judged → Key → ℕ
count_over p outcomes (label text) = times text (labels_of outcomes)
count_over p outcomes (class name) = times name (classes_of p outcomes)
count_over p outcomes (entry name text) = times text (entries_of p name outcomes)
count_over p outcomes (entries name) = length (entries_of p name outcomes)
count_over p outcomes (cover i) = covered i outcomes

-- what the tables counted; a row whose count is 0 is no row
abbrev pub entry_in : Tables → Key → Option ℕ
entry_in tables key = get_by (λ k. key_eq key (key_in k)) tables.counts

abbrev pub count_of : Tables → Key → ℕ
count_of tables key = unwrap_or (entry_in tables key) 0

abbrev pub has_row : Tables → Key → Bool
has_row tables key = is_some (entry_in tables key)

-- each count is that over the list, or 2^64 - 1 where that is greater
abbrev pub StandsFor : Tables → List Judged → Type 0
StandsFor tables outcomes = (key : Key) → count_of tables key ≡ min (count_over tables.property.now outcomes key) (2 ^ 64 - 1)

-- how many of the keys are that one
abbrev pub among : Key → List Key → ℕ
among key keys = count_by (key_eq key) keys

abbrev pub SameCounts : Tables → Tables → Type 0
SameCounts old new = (key : Key) → count_of new key ≡ count_of old key

-- each count rose by as many as there are of its key, up to 2^64 - 1
abbrev pub Raises : Tables → List Key → Tables → Type 0
Raises old keys new = (key : Key) (n : ℕ) → count_of old key ≡ min n (2 ^ 64 - 1) → count_of new key ≡ min (n + among key keys) (2 ^ 64 - 1)

-- the marks have as many classes, entries and covers as the property has clauses of them
pub record Fits (p : PropertyData) (m : Marked) : Type 0 where
  pub classes : length m.classes ≡ length (class_names p.marks)
  pub entries : length m.entries ≡ length (table_names p.marks)
  pub covers : length m.covers ≡ length (wanted_of p.marks)

-- every Discard is taken, and each Pass whose marks fit
abbrev pub IsTaken : PropertyData → Judged → Type 0
IsTaken p o = elim o.verdict [ Pass ↦ Fits p o.marks | Discard ↦ Unit {0} | Fail c ↦ ⊥ ]
