-- The data that notes stand for.
use Rattle.std.specs.Prelude.{◌≡◌, ℕ, Bool, true, false, List, [], ◌∷◌, codes, map, Result, Ok, Err}
use Rattle.qk_base.specs.Judged.{Judged, Marked}
use Rattle.qk_base.specs.declared.outcome.Cause.{Cause}
use Rattle.qk_base.specs.declared.outcome.Verdict.TheVariants.{Pass, Fail}
use Rattle.qk_command.specs.Judging.{no_marks}
use Rattle.qk_eval.specs.Meaning.{Evaluated, result, crash}
use Rattle.qk_eval.specs.Parts.{truth_of}
use Rattle.qk_value.specs.Data.{Data}
use Rattle.qk_value.specs.Kinds.{KindData}
use Rattle.qk_command.specs.Marking.{Note, labelled, classified, entered, covered, label_texts, classes_of, entries_of, covers_of, joined, cut, value_text}
use Rattle.qk_command.specs.declared.noting.Says.{Says}
use Rattle.qk_command.specs.declared.noting.Says.TheVariants as says
use Rattle.qk_command.specs.declared.noting.Note.{Note as CodeNote}
use Rattle.qk_command.specs.declared.noting.Note.TheVariants as notes
use Rattle.qk_command.specs.declared.noting.Noted.{Noted}
use Rattle.qk_command.specs.declared.noting.Noted.TheVariants as noted
use Rattle.qk_command.specs.declared.marking.Notes.{Notes}

abbrev pub note_in : CodeNote → Note
note_in (notes.Labelled text) = labelled text.items
note_in (notes.Classified b) = classified b
note_in (notes.Entered text) = entered text.items
note_in (notes.Covered b) = covered b

abbrev pub noted_in : Noted → Evaluated Note
noted_in (noted.Note note u) = result (note_in note) u
noted_in (noted.Crash c) = crash c

-- what a mark says of a value
abbrev pub note_by : Says → List KindData → Data → Note
note_by says.Label kinds x = labelled (value_text kinds x)
note_by says.Class kinds x = classified (truth_of x)
note_by says.Entry kinds x = entered (cut (value_text kinds x))
note_by says.Cover kinds x = covered (truth_of x)

abbrev pub is_some_text : List (List ℕ) → Bool
is_some_text [] = false
is_some_text (text ∷ texts) = true

-- what stands before one more text
abbrev pub separator : Bool → List ℕ
separator true = codes ", "
separator false = []

-- what was collected is what these notes say
pub record StandsFor (all : Notes) (ns : List Note) : Type 0 where
  pub label : all.label.items ≡ joined (label_texts ns)
  pub labelled : all.labelled ≡ is_some_text (label_texts ns)
  pub classes : all.classes.items ≡ classes_of ns
  pub entries : map (λ entry. entry.items) all.entries.items ≡ entries_of ns
  pub covers : all.covers.items ≡ covers_of ns

-- what all marks came to: their marks on an attempt that passes, or a crash
abbrev pub judged_in : Result Marked Cause → Judged
judged_in (Ok m) = record { verdict = Pass; marks = m }
judged_in (Err c) = record { verdict = Fail c; marks = no_marks }
