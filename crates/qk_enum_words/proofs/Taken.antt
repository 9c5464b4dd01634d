-- The command takes accepted words, and its matches are what the parts give.
use Rattle.std.proofs.Common.{◌≡◌, ◌∙◌, Bool, true, false, not, List, [], ◌∷◌, ◌++◌, ◌||◌, refl, sym, ap, subst, None, Some, map, option_map, fold, cond, if◌then◌else◌}
use Rattle.std.specs.List.{list_all, find}
use Rattle.std.specs.Prelude.{option_and_then, slice_get}
use Rattle.std.specs.Str.{bytes_eq}
use Rattle.clap.specs.Walk.{Row, Rule, Text, has_row, with_default, default_rows, more_values, first_of, reading_by, nothing_held}
use Rattle.clap.specs.Takes.{takes, level_passes}
use Rattle.clap.specs.Simple.{matches_of}
use Rattle.clap.specs.declared.parser.matches.ValueSource.TheVariants.{DefaultValue}
use Rattle.clap.proofs.TakesLemmas.{leaf_takes}
use Rattle.qk_enum_words.specs.Accepted.{IsSpelling, IsAccepted}
use Rattle.qk_enum_words.specs.Parts.{Part, key_of, value_of, given}
use Rattle.qk_enum_words.specs.EnumCommand.{quicker_enum}
use Rattle.qk_words.proofs.Rows.{at_new, both, not_true}
use Rattle.qk_enum_words.proofs.Steps.{shape, at, row}
use Rattle.qk_enum_words.proofs.ClapWalk.{Walks, walk_parts, are_new}

all_new : (ps : List Part) → are_new [] ps ≡ true
all_new [] = refl
all_new (p ∷ ps) = all_new ps

pub spelling_walks : (words : List Text) (ps : List Part) → IsSpelling words ps → Walks (at [] None 1) words (map row ps)
spelling_walks words ps h = subst (λ ws. Walks (at [] None 1) ws (map row ps)) (sym h.words_are)
    (walk_parts ps [] None 1 [] refl refl h.parts h.once (all_new ps) (λ _. refl))

passes_of : (words : List Text) (rows : List Row) → Walks (at [] None 1) words rows → level_passes shape [] nothing_held words false ≡ true
passes_of words rows h = rw (h.passes, h.settles) refl

pub taken : (words : List Text) → IsAccepted words → takes quicker_enum words ≡ true
taken words h = leaf_takes _ nothing_held words refl (passes_of words (map row h.0) (spelling_walks words h.0 h.1))

-- ---- values

first_push : (key : Text) (rows : List Row) (r : Row) → bytes_eq r.id key ≡ false → first_of key (rows ++ r ∷ []) ≡ first_of key rows
first_push key [] r h = rw h refl
first_push key (x ∷ xs) r h = by (bytes_eq x.id key) (first_push key xs r h)
  where
    by : (b : Bool) → first_of key (xs ++ r ∷ []) ≡ first_of key xs
        → option_and_then (λ (y : Row). slice_get y.values 0) (cond b (Some x) (find (λ y. bytes_eq y.id key) (xs ++ r ∷ [])))
        ≡ option_and_then (λ (y : Row). slice_get y.values 0) (cond b (Some x) (find (λ y. bytes_eq y.id key) xs))
    by true e = refl
    by false e = e

abbrev pub no_texts : List Text → Bool
no_texts [] = true
no_texts (v ∷ vs) = false

-- the argument has no default, or is another
abbrev pub leaves : Text → Rule → Bool
leaves key a = no_texts a.defaults || not (bytes_eq a.id key)

first_default : (key : Text) (rows : List Row) (a : Rule) → leaves key a ≡ true → first_of key (with_default rows a) ≡ first_of key rows
first_default key rows a h = by (has_row a.id rows) refl a.defaults h
  where
    by : (b : Bool) → has_row a.id rows ≡ b → (vs : List Text) → (no_texts vs || not (bytes_eq a.id key)) ≡ true
        → first_of key (if b then rows else default_rows a.id (reading_by a) vs rows) ≡ first_of key rows
    by true e vs k = refl
    by false e [] k = refl
    by false e (v ∷ vs) k =
        ap (first_of key) (at_new a.id (more_values DefaultValue (v ∷ vs)) (record { id = a.id; values = v ∷ vs; count = None; source = Some DefaultValue; reading = reading_by a } ∷ []) rows e)
        ∙ first_push key rows _ (not_true _ k)

first_finished : (key : Text) (c : List Rule) (rows : List Row) → list_all (leaves key) c ≡ true → first_of key (fold with_default rows c) ≡ first_of key rows
first_finished key [] rows h = refl
first_finished key (a ∷ c) rows h = first_finished key c (with_default rows a) (both _ _ h).1 ∙ first_default key rows a (both _ _ h).0

first_given : (key : Text) (ps : List Part) → first_of key (map row ps) ≡ given key ps
first_given key [] = refl
first_given key (p ∷ ps) = by (bytes_eq (key_of p) key) (first_given key ps)
  where
    by : (b : Bool) → first_of key (map row ps) ≡ given key ps
        → option_and_then (λ (y : Row). slice_get y.values 0) (cond b (Some (row p)) (find (λ y. bytes_eq y.id key) (map row ps)))
        ≡ option_map value_of (cond b (Some p) (find (λ q. bytes_eq (key_of q) key) ps))
    by true e = refl
    by false e = e

-- the value that the matches have for a key without default is the one that the parts give
pub given_of : (words : List Text) (ps : List Part) → IsSpelling words ps → (key : Text) → list_all (leaves key) shape.rules ≡ true
    → first_of key (matches_of quicker_enum words) ≡ given key ps
given_of words ps h key ok = first_finished key shape.rules _ ok ∙ ap (first_of key) (spelling_walks words ps h).rows_are ∙ first_given key ps
