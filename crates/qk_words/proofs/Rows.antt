-- Rows of a command's matches.
use Rattle.std.proofs.Common.{◌≡◌, ◌∙◌, Bool, true, false, not, List, [], ◌∷◌, ◌++◌, ◌&&◌, ◌||◌, refl, sym, ap, None, Some, if◌then◌else◌, true≢false}
use Rattle.std.proofs.lemmas.List.{append-nil}
use Rattle.std.specs.Str.{bytes_eq}
use Rattle.clap.specs.Walk.{Row, Text, at_row, has_row, more_values, with_values, without}
use Rattle.clap.specs.declared.builder.value_parser.Reading.{Reading}
use Rattle.clap.specs.declared.parser.matches.ValueSource.TheVariants.{CommandLine}

-- a row of a new id goes last
pub at_new : (id : Text) (change : Row → List Row) (missing rows : List Row) → has_row id rows ≡ false → at_row id change missing rows ≡ rows ++ missing
at_new id change missing [] h = refl
at_new id change missing (r ∷ rs) h = by (bytes_eq r.id id) h (at_new id change missing rs)
  where
    by : (b : Bool) → (b || has_row id rs) ≡ false → (has_row id rs ≡ false → at_row id change missing rs ≡ rs ++ missing) → (if b then change r ++ rs else r ∷ at_row id change missing rs) ≡ r ∷ (rs ++ missing)
    by true k rest = absurd (true≢false k)
    by false k rest = ap (λ t. r ∷ t) (rest k)

abbrev pub new_row : Text → Reading → Text → Row
new_row id how v = record { id = id; values = v ∷ []; count = None; source = Some CommandLine; reading = how }

pub used_new : (id : Text) (how : Reading) (v : Text) (rows : List Row) → has_row id rows ≡ false
    → with_values id how CommandLine (v ∷ []) (without id rows) ≡ rows ++ new_row id how v ∷ []
used_new id how v rows h =
    let same : without id rows ≡ rows = at_new id (λ _. []) [] rows h ∙ append-nil rows in
    ap (with_values id how CommandLine (v ∷ [])) same ∙ at_new id (more_values CommandLine (v ∷ [])) (new_row id how v ∷ []) rows h

pub has_row-push : (id : Text) (rows : List Row) (r : Row) → has_row id (rows ++ r ∷ []) ≡ (has_row id rows || bytes_eq r.id id)
has_row-push id [] r = by (bytes_eq r.id id)
  where
    by : (b : Bool) → (b || false) ≡ b
    by true = refl
    by false = refl
has_row-push id (x ∷ xs) r = by (bytes_eq x.id id) (has_row-push id xs r)
  where
    by : (b : Bool) → has_row id (xs ++ r ∷ []) ≡ (has_row id xs || bytes_eq r.id id) → (b || has_row id (xs ++ r ∷ [])) ≡ ((b || has_row id xs) || bytes_eq r.id id)
    by true h = refl
    by false h = h

pub both : (a b : Bool) → (a && b) ≡ true → (a ≡ true) × (b ≡ true)
both true b e = (refl, e)
both false b e = absurd (true≢false (sym e))

pub not_true : (b : Bool) → not b ≡ true → b ≡ false
not_true true e = absurd (true≢false (sym e))
not_true false e = refl

pub or_false : (a b : Bool) → (a || b) ≡ false → (a ≡ false) × (b ≡ false)
or_false true b e = absurd (true≢false e)
or_false false b e = (refl, e)
