-- What is collected of notes, one after another.
use Rattle.std.proofs.Common.{◌≡◌, ◌∙◌, ℕ, Bool, true, List, [], ◌∷◌, ◌++◌, codes, map, refl, sym, ap, append_assoc, append-nil}
use Rattle.qk_command.specs.Marking.{Note, labelled, classified, entered, covered, label_texts, classes_of, entries_of, covers_of, after_commas, joined}
use Rattle.qk_command.specs.NotesView.{StandsFor, is_some_text, separator}
use Rattle.qk_command.specs.declared.marking.Notes.{Notes}

pub texts_joined : (ms ns : List Note) → label_texts (ms ++ ns) ≡ label_texts ms ++ label_texts ns
texts_joined [] ns = refl
texts_joined (labelled text ∷ ms) ns = ap (λ ts. text ∷ ts) (texts_joined ms ns)
texts_joined (classified b ∷ ms) ns = texts_joined ms ns
texts_joined (entered text ∷ ms) ns = texts_joined ms ns
texts_joined (covered b ∷ ms) ns = texts_joined ms ns

pub classes_joined : (ms ns : List Note) → classes_of (ms ++ ns) ≡ classes_of ms ++ classes_of ns
classes_joined [] ns = refl
classes_joined (labelled text ∷ ms) ns = classes_joined ms ns
classes_joined (classified b ∷ ms) ns = ap (λ bs. b ∷ bs) (classes_joined ms ns)
classes_joined (entered text ∷ ms) ns = classes_joined ms ns
classes_joined (covered b ∷ ms) ns = classes_joined ms ns

pub entries_joined : (ms ns : List Note) → entries_of (ms ++ ns) ≡ entries_of ms ++ entries_of ns
entries_joined [] ns = refl
entries_joined (labelled text ∷ ms) ns = entries_joined ms ns
entries_joined (classified b ∷ ms) ns = entries_joined ms ns
entries_joined (entered text ∷ ms) ns = ap (λ ts. text ∷ ts) (entries_joined ms ns)
entries_joined (covered b ∷ ms) ns = entries_joined ms ns

pub covers_joined : (ms ns : List Note) → covers_of (ms ++ ns) ≡ covers_of ms ++ covers_of ns
covers_joined [] ns = refl
covers_joined (labelled text ∷ ms) ns = covers_joined ms ns
covers_joined (classified b ∷ ms) ns = covers_joined ms ns
covers_joined (entered text ∷ ms) ns = covers_joined ms ns
covers_joined (covered b ∷ ms) ns = ap (λ bs. b ∷ bs) (covers_joined ms ns)

comma_last : (ts : List (List ℕ)) (t : List ℕ) → after_commas (ts ++ t ∷ []) ≡ after_commas ts ++ (codes ", " ++ t)
comma_last [] t = ap (λ us. codes ", " ++ us) (append-nil t)
comma_last (u ∷ ts) t = ap (λ us. codes ", " ++ u ++ us) (comma_last ts t) ∙ ap (λ us. codes ", " ++ us) (sym (append_assoc u (after_commas ts) (codes ", " ++ t)))

-- one more text, behind a comma where it is not the first
pub joined_last : (ts : List (List ℕ)) (t : List ℕ) → joined (ts ++ t ∷ []) ≡ (joined ts ++ separator (is_some_text ts)) ++ t
joined_last [] t = append-nil t
joined_last (u ∷ ts) t =
    ap (λ us. u ++ us) (comma_last ts t) ∙ sym (append_assoc u (after_commas ts) (codes ", " ++ t)) ∙ sym (append_assoc (u ++ after_commas ts) (codes ", ") t)

pub some_last : (ts : List (List ℕ)) (t : List ℕ) → is_some_text (ts ++ t ∷ []) ≡ true
some_last [] t = refl
some_last (u ∷ ts) t = refl

-- one more text of a label
pub text_added : (before after : Notes) (ns : List Note) (t : List ℕ) → StandsFor before ns
    → after.label.items ≡ (before.label.items ++ separator before.labelled) ++ t → after.labelled ≡ true
    → after.classes.items ≡ before.classes.items → map (λ entry. entry.items) after.entries.items ≡ map (λ entry. entry.items) before.entries.items → after.covers.items ≡ before.covers.items
    → StandsFor after (ns ++ labelled t ∷ [])
text_added before after ns t h label is_labelled classes entries covers = record {
  label =
      label ∙ ap (λ l. (l ++ separator before.labelled) ++ t) h.label ∙ ap (λ b. (joined (label_texts ns) ++ separator b) ++ t) h.labelled
      ∙ sym (joined_last (label_texts ns) t) ∙ ap joined (sym (texts_joined ns (labelled t ∷ [])));
  labelled = is_labelled ∙ sym (some_last (label_texts ns) t) ∙ ap is_some_text (sym (texts_joined ns (labelled t ∷ [])));
  classes = classes ∙ h.classes ∙ sym (classes_joined ns (labelled t ∷ []) ∙ append-nil (classes_of ns));
  entries = entries ∙ h.entries ∙ sym (entries_joined ns (labelled t ∷ []) ∙ append-nil (entries_of ns));
  covers = covers ∙ h.covers ∙ sym (covers_joined ns (labelled t ∷ []) ∙ append-nil (covers_of ns));
}

same_texts : (ns : List Note) (n : Note) → label_texts (n ∷ []) ≡ [] → label_texts (ns ++ n ∷ []) ≡ label_texts ns
same_texts ns n none = texts_joined ns (n ∷ []) ∙ ap (λ ts. label_texts ns ++ ts) none ∙ append-nil (label_texts ns)

-- one more class
pub class_added : (before after : Notes) (ns : List Note) (b : Bool) → StandsFor before ns
    → after.label.items ≡ before.label.items → after.labelled ≡ before.labelled
    → after.classes.items ≡ before.classes.items ++ b ∷ [] → map (λ entry. entry.items) after.entries.items ≡ map (λ entry. entry.items) before.entries.items → after.covers.items ≡ before.covers.items
    → StandsFor after (ns ++ classified b ∷ [])
class_added before after ns b h label is_labelled classes entries covers = record {
  label = label ∙ h.label ∙ ap joined (sym (same_texts ns (classified b) refl));
  labelled = is_labelled ∙ h.labelled ∙ ap is_some_text (sym (same_texts ns (classified b) refl));
  classes = classes ∙ ap (λ bs. bs ++ b ∷ []) h.classes ∙ sym (classes_joined ns (classified b ∷ []));
  entries = entries ∙ h.entries ∙ sym (entries_joined ns (classified b ∷ []) ∙ append-nil (entries_of ns));
  covers = covers ∙ h.covers ∙ sym (covers_joined ns (classified b ∷ []) ∙ append-nil (covers_of ns));
}

-- one more entry of a table
pub entry_added : (before after : Notes) (ns : List Note) (t : List ℕ) → StandsFor before ns
    → after.label.items ≡ before.label.items → after.labelled ≡ before.labelled
    → after.classes.items ≡ before.classes.items → map (λ entry. entry.items) after.entries.items ≡ map (λ entry. entry.items) before.entries.items ++ t ∷ [] → after.covers.items ≡ before.covers.items
    → StandsFor after (ns ++ entered t ∷ [])
entry_added before after ns t h label is_labelled classes entries covers = record {
  label = label ∙ h.label ∙ ap joined (sym (same_texts ns (entered t) refl));
  labelled = is_labelled ∙ h.labelled ∙ ap is_some_text (sym (same_texts ns (entered t) refl));
  classes = classes ∙ h.classes ∙ sym (classes_joined ns (entered t ∷ []) ∙ append-nil (classes_of ns));
  entries = entries ∙ ap (λ ts. ts ++ t ∷ []) h.entries ∙ sym (entries_joined ns (entered t ∷ []));
  covers = covers ∙ h.covers ∙ sym (covers_joined ns (entered t ∷ []) ∙ append-nil (covers_of ns));
}

-- one more cover
pub cover_added : (before after : Notes) (ns : List Note) (b : Bool) → StandsFor before ns
    → after.label.items ≡ before.label.items → after.labelled ≡ before.labelled
    → after.classes.items ≡ before.classes.items → map (λ entry. entry.items) after.entries.items ≡ map (λ entry. entry.items) before.entries.items → after.covers.items ≡ before.covers.items ++ b ∷ []
    → StandsFor after (ns ++ covered b ∷ [])
cover_added before after ns b h label is_labelled classes entries covers = record {
  label = label ∙ h.label ∙ ap joined (sym (same_texts ns (covered b) refl));
  labelled = is_labelled ∙ h.labelled ∙ ap is_some_text (sym (same_texts ns (covered b) refl));
  classes = classes ∙ h.classes ∙ sym (classes_joined ns (covered b ∷ []) ∙ append-nil (classes_of ns));
  entries = entries ∙ h.entries ∙ sym (entries_joined ns (covered b ∷ []) ∙ append-nil (entries_of ns));
  covers = covers ∙ ap (λ bs. bs ++ b ∷ []) h.covers ∙ sym (covers_joined ns (covered b ∷ []));
}
