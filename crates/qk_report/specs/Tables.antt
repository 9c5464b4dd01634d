-- The tables of a list of outcomes: how often what each mark says came up among the attempts that passed.
use Rattle.std.specs.Prelude.{ℕ, Bool, true, false, not, List, [], ◌∷◌, map, filter, filter_map, flat_map, count_by, Option, Some, None, slice_get, unwrap_or, if◌then◌else◌}
use Rattle.std.specs.Cmp.Lexicographic.{slice_cmp}
use Rattle.std.specs.Ordering.{is_lt, nat_cmp, ordering_then}
use Rattle.std.specs.Str.{bytes_eq}
use Rattle.std.specs.declared.cmp.Ordering.{Ordering}
use Rattle.qk_base.specs.Judged.{Judged, passes}
use Rattle.qk_core.specs.Properties.{MarkData, classify, tabulate, cover, PropertyData}

abbrev pub Text : Type 0
Text = List ℕ

-- the outcomes that count
abbrev pub passing : List Judged → List Judged
passing outcomes = filter passes outcomes

-- each text once, in the order of the first places
abbrev pub distinct : List Text → List Text
distinct [] = []
distinct (t ∷ ts) = t ∷ filter (λ other. not (bytes_eq t other)) (distinct ts)

-- how many of the texts are that one
abbrev pub times : Text → List Text → ℕ
times text texts = count_by (bytes_eq text) texts

-- the names of the classes, one for each clause
abbrev pub class_name : MarkData → Option Text
class_name (classify e name) = Some name
class_name mark = None

abbrev pub class_names : List MarkData → List Text
class_names marks = filter_map class_name marks

-- the names of the tables, one for each clause
abbrev pub table_name : MarkData → Option Text
table_name (tabulate name e) = Some name
table_name mark = None

abbrev pub table_names : List MarkData → List Text
table_names marks = filter_map table_name marks

-- what a cover clause wants: a percentage of the attempts, and its name
pub record Wanted : Type 0 where
  pub percent : ℕ
  pub name : Text

abbrev pub wanted : MarkData → Option Wanted
wanted (cover percent e name) = Some (record { percent = percent; name = name })
wanted mark = None

abbrev pub wanted_of : List MarkData → List Wanted
wanted_of marks = filter_map wanted marks

-- an empty label counts for nothing
abbrev pub label_of : Text → List Text
label_of [] = []
label_of (byte ∷ bytes) = (byte ∷ bytes) ∷ []

abbrev pub labels_of : List Judged → List Text
labels_of outcomes = flat_map (λ o. label_of o.marks.label) (passing outcomes)

-- the names of the clauses that are true
abbrev pub true_names : List Text → List Bool → List Text
true_names names [] = []
true_names [] truths = []
true_names (name ∷ names) (true ∷ truths) = name ∷ true_names names truths
true_names (name ∷ names) (false ∷ truths) = true_names names truths

-- an attempt counts once for each name that has a true clause
abbrev pub classes_of : PropertyData → List Judged → List Text
classes_of p outcomes = flat_map (λ o. distinct (true_names (class_names p.marks) o.marks.classes)) (passing outcomes)

-- the texts of the clauses of one name
abbrev pub texts_under : Text → List Text → List Text → List Text
texts_under name names [] = []
texts_under name [] texts = []
texts_under name (other ∷ names) (text ∷ texts) = if bytes_eq name other then text ∷ texts_under name names texts else texts_under name names texts

-- each clause of the name gives one text for each attempt
abbrev pub entries_of : PropertyData → Text → List Judged → List Text
entries_of p name outcomes = flat_map (λ o. texts_under name (table_names p.marks) o.marks.entries) (passing outcomes)

-- how often the cover clause of that index was true
abbrev pub covered : ℕ → List Judged → ℕ
covered i outcomes = count_by (λ o. unwrap_or (slice_get o.marks.covers i) false) (passing outcomes)

-- a row of a table
pub record Row : Type 0 where
  pub count : ℕ
  pub text : Text

-- rows by count, greatest first, then by text in the order of its bytes
abbrev pub row_cmp : Row → Row → Ordering
row_cmp a b = ordering_then (nat_cmp b.count a.count) (slice_cmp nat_cmp a.text b.text)

-- a row at its place among rows in order
abbrev pub placed : Row → List Row → List Row
placed row [] = row ∷ []
placed row (other ∷ rows) = if is_lt (row_cmp row other) then row ∷ other ∷ rows else other ∷ placed row rows

abbrev pub in_order : List Row → List Row
in_order [] = []
in_order (row ∷ rows) = placed row (in_order rows)

-- a row for each text that comes up, in order
abbrev pub rows_of : List Text → List Row
rows_of texts = in_order (map (λ text. record { count = times text texts; text = text }) (distinct texts))
