-- The marks of an attempt that passes.
use Rattle.std.specs.Prelude.{ℕ, Bool, List, [], ◌∷◌, ◌++◌, codes, length, take, nat_lt, if◌then◌else◌}
use Rattle.qk_base.specs.Judged.{Marked}
use Rattle.qk_core.specs.Definitions.{FunctionData}
use Rattle.qk_core.specs.Properties.{MarkData, label, collect, classify, tabulate, cover}
use Rattle.qk_value.specs.Data.{Data}
use Rattle.qk_value.specs.Kinds.{KindData, maker_name}
use Rattle.qk_value.specs.Printed.{printed}
use Rattle.qk_eval.specs.Meaning.{Evaluated, result, and_then, meaning}
use Rattle.qk_eval.specs.Parts.{truth_of}

-- what one mark says of an attempt
pub data Note : Type 0 where
  labelled : List ℕ → Note
  classified : Bool → Note
  entered : List ℕ → Note
  covered : Bool → Note

-- a text of more than 64 bytes is cut to 61 and three dots
abbrev pub cut : List ℕ → List ℕ
cut text = if nat_lt 64 (length text) then take 61 text ++ codes "..." else text

abbrev pub value_text : List KindData → Data → List ℕ
value_text kinds x = printed (maker_name kinds) x

abbrev pub note_of : List FunctionData → List KindData → MarkData → List Data → ℕ → Evaluated Note
note_of functions kinds (label name) env u = result (labelled name) u
note_of functions kinds (collect e) env u = and_then (meaning functions e env u) (λ x v. result (labelled (value_text kinds x)) v)
note_of functions kinds (classify e name) env u = and_then (meaning functions e env u) (λ x v. result (classified (truth_of x)) v)
note_of functions kinds (tabulate name e) env u = and_then (meaning functions e env u) (λ x v. result (entered (cut (value_text kinds x))) v)
note_of functions kinds (cover percent e name) env u = and_then (meaning functions e env u) (λ x v. result (covered (truth_of x)) v)

-- what the marks say, in their order
abbrev pub notes_of : List FunctionData → List KindData → List MarkData → List Data → ℕ → Evaluated (List Note)
notes_of functions kinds [] env u = result [] u
notes_of functions kinds (m ∷ ms) env u =
    and_then (note_of functions kinds m env u) (λ note v. and_then (notes_of functions kinds ms env v) (λ notes w. result (note ∷ notes) w))

abbrev pub label_texts : List Note → List (List ℕ)
label_texts [] = []
label_texts (labelled text ∷ notes) = text ∷ label_texts notes
label_texts (note ∷ notes) = label_texts notes

abbrev pub classes_of : List Note → List Bool
classes_of [] = []
classes_of (classified b ∷ notes) = b ∷ classes_of notes
classes_of (note ∷ notes) = classes_of notes

abbrev pub entries_of : List Note → List (List ℕ)
entries_of [] = []
entries_of (entered text ∷ notes) = text ∷ entries_of notes
entries_of (note ∷ notes) = entries_of notes

abbrev pub covers_of : List Note → List Bool
covers_of [] = []
covers_of (covered b ∷ notes) = b ∷ covers_of notes
covers_of (note ∷ notes) = covers_of notes

-- each with a comma before it
abbrev pub after_commas : List (List ℕ) → List ℕ
after_commas [] = []
after_commas (text ∷ texts) = codes ", " ++ text ++ after_commas texts

-- with a comma between two
abbrev pub joined : List (List ℕ) → List ℕ
joined [] = []
joined (text ∷ texts) = text ++ after_commas texts

-- the joined texts of labels are cut as one
abbrev pub marked : List Note → Marked
marked notes = record { label = cut (joined (label_texts notes)); classes = classes_of notes; entries = entries_of notes; covers = covers_of notes }
