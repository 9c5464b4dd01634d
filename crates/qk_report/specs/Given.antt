-- What the marks of one attempt give to the tables.
use Rattle.std.specs.Prelude.{ℕ, ◌+◌, Bool, true, false, List, [], ◌∷◌, ◌++◌, map}
use Rattle.qk_base.specs.Judged.{Marked}
use Rattle.qk_core.specs.Properties.{PropertyData}
use Rattle.qk_report.specs.Counted.{Key, label, class, entry, entries, cover}
use Rattle.qk_report.specs.Tables.{Text, class_names, distinct, label_of, table_names, true_names}

-- a text for each clause of a table, and that its table has one more
abbrev pub entry_keys : List Text → List Text → List Key
entry_keys names [] = []
entry_keys [] texts = []
entry_keys (name ∷ names) (text ∷ texts) = entry name text ∷ entries name ∷ entry_keys names texts

-- the covers that are true, by their indices from there on
abbrev pub cover_keys : ℕ → List Bool → List Key
cover_keys i [] = []
cover_keys i (true ∷ covers) = cover i ∷ cover_keys (i + 1) covers
cover_keys i (false ∷ covers) = cover_keys (i + 1) covers

abbrev pub keys_given : PropertyData → Marked → List Key
keys_given p m =
    map label (label_of m.label) ++ map class (distinct (true_names (class_names p.marks) m.classes)) ++ entry_keys (table_names p.marks) m.entries ++ cover_keys 0 m.covers
