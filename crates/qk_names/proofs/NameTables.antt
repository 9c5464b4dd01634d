-- Names in a table, found as in the list of them.
use Rattle.std.proofs.Common.{◌≡◌, ◌∙◌, ℕ, Bool, true, false, cond, List, [], ◌∷◌, ◌++◌, map, refl, sym, ap, Option, None, Some, Vec}
use Rattle.std.specs.Option.{option_map}
use Rattle.std.specs.Prelude.{find}
use Rattle.std.specs.Str.{bytes_eq}
use Rattle.indexmap.specs.IndexMap.{insert_entry}
use Rattle.indexmap.proofs.CallerLemmas.{insert_entry-new}
use Rattle.std.specs.HashMap.{HashMap}
use Rattle.std.specs.Map.{lookup}
use Rattle.qk_names.specs.NameTable.{Declares}
use Rattle.qk_names.specs.Names.{Declared, named_by}
use Rattle.qk_names.specs.Reserved.{Word}
use Rattle.qk_names.specs.declared.names.Named.{Named}

abbrev pub entry : {K : Type 0} → (K → Word) → K × Named → Declared
entry bytes e = record { name = bytes e.0; named = e.1 }

chosen : (b : Bool) (d : Declared) (o : Option Declared) (n : Option Named) → option_map (λ d. d.named) o ≡ n → option_map (λ d. d.named) (cond b (Some d) o) ≡ cond b (Some d.named) n
chosen true d o n same = refl
chosen false d o n same = same

pub named_of : {K : Type 0} (bytes : K → Word) (w : Word) (es : List (K × Named)) → named_by (map (entry bytes) es) w ≡ lookup (λ k. bytes_eq w (bytes k)) es
named_of bytes w [] = refl
named_of bytes w (e ∷ es) = chosen (bytes_eq w (bytes e.0)) (entry bytes e) (find (λ d. bytes_eq w d.name) (map (entry bytes) es)) _ (named_of bytes w es)

pub added : {K : Type 0} (bytes : K → Word) (es : List (K × Named)) (key : K) (what : Named) (w : Word) → bytes key ≡ w → Declares (map (entry bytes) es) w what (map (entry bytes) (es ++ (key, what) ∷ []))
added bytes [] key what w same = λ i. record { name = same i; named = what } ∷ []
added bytes (e ∷ es) key what w same = ap (λ ds. entry bytes e ∷ ds) (added bytes es key what w same)

module _ {K S : Type 0} (bytes : K → Word) (m : HashMap K Named S) (key : K) (what : Named) (w : Word) where
  pub inserted : (new : List (K × Named)) → new ≡ insert_entry (λ x y. bytes_eq (bytes x) (bytes y)) m.entries key what → bytes key ≡ w → named_by (map (entry bytes) m.entries) w ≡ None
      → Declares (map (entry bytes) m.entries) w what (map (entry bytes) new)
  inserted new made same none =
      let absent : lookup (λ k. bytes_eq (bytes key) (bytes k)) m.entries ≡ None = ap (λ l. lookup (λ k. bytes_eq l (bytes k)) m.entries) same ∙ sym (named_of bytes w m.entries) ∙ none in
      ap (map (entry bytes)) (made ∙ insert_entry-new (λ x y. bytes_eq (bytes x) (bytes y)) m key what absent) ∙ added bytes m.entries key what w same
