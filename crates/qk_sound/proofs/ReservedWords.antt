-- The words that no declaration may take are those of the forms.
use Rattle.std.specs.Prelude.{codes, bytes_eq}
use Rattle.std.specs.List.{list_any, list_all}
use Rattle.std.specs.Option.{is_some}
use Rattle.std.proofs.Common.{◌≡◌, Bool, true, false, ◌||◌, if◌then◌else◌, List, [], ◌∷◌, Option, Some, refl, sym, subst}
use Rattle.std.proofs.lemmas.Slice.Eq.{bytes_eq-Decides}
use Rattle.qk_core.specs.GenData.{GenData}
use Rattle.qk_generators.specs.Drawing.{gen_forms}
use Rattle.qk_headers.specs.TypesOf.{former}
use Rattle.qk_headers.specs.declared.types_of.Former.{Former}
use Rattle.qk_headers.specs.declared.types_of.Former.TheVariants as formers
use Rattle.qk_names.specs.Reserved.{Word, entry_of, type_words, value_words, operator_words, list_words, generator_words, drawing_words, is_reserved}
use Rattle.qk_typed.specs.WellTyped.{Each}
use Rattle.qk_typing.specs.Operators.{forms}
use Rattle.qk_value.specs.Types.{TypeData, int_type, bool_type}
use Rattle.qk_wellformed.specs.IsExpression.{truth_of}
use Rattle.qk_wellformed.specs.IsGenerator.{plain_generator}
use Rattle.qk_wellformed.specs.IsType.{plain_type}
use Rattle.qk_sound.specs.ReservedWords.{ReservedWordsAreForms, is_type_word, is_expression_word, is_generator_word}
use Rattle.qk_sound.proofs.Found.{all_pass}

same_test : (a b : Bool) → (a ≡ true → b ≡ true) → (b ≡ true → a ≡ true) → a ≡ b
same_test true b h k = sym (h refl)
same_test false true h k = k refl
same_test false false h k = refl

one_of : (a b : Bool) (P : Type 0) → (a ≡ true → P) → (b ≡ true → P) → (a || b) ≡ true → P
one_of true b P h k e = h refl
one_of false b P h k e = k e

-- a test that each of some words passes
among : (test : Word → Bool) (ks : List Word) (w : Word) → Each (λ (k : Word). test k ≡ true) ks → list_any (bytes_eq w) ks ≡ true → test w ≡ true
among test [] w h e = cc
among test (k ∷ ks) w h e =
    one_of (bytes_eq w k) (list_any (bytes_eq w) ks) (test w ≡ true) (λ same. subst (λ (v : Word). test v ≡ true) (sym ((bytes_eq-Decides w k).0 same)) h.0) (λ later. among test ks w h.1 later) e

under_by : {A : Type 0} (test : Word → Bool) (b : Bool) (x : A) (o : Option A) (w : Word) → (b ≡ true → test w ≡ true) → (is_some o ≡ true → test w ≡ true) → is_some (if b then Some x else o) ≡ true → test w ≡ true
under_by test true x o w h k e = h refl
under_by test false x o w h k e = k e

under_each : {A : Type 0} (test : Word → Bool) (entries : List (Word × A)) (w : Word) → Each (λ (e : Word × A). test e.0 ≡ true) entries → is_some (entry_of entries w) ≡ true → test w ≡ true
under_each test [] w h e = cc
under_each test (entry ∷ entries) w h e =
    under_by test (bytes_eq entry.0 w) entry.1 (entry_of entries w) w (λ same. subst (λ (v : Word). test v ≡ true) ((bytes_eq-Decides entry.0 w).0 same) h.0) (λ later. under_each test entries w h.1 later) e

-- .. and the words of some entries
under : {A : Type 0} (test : Word → Bool) (entries : List (Word × A)) (w : Word) → list_all (λ (e : Word × A). test e.0) entries ≡ true → is_some (entry_of entries w) ≡ true → test w ≡ true
under test entries w h e = under_each test entries w (all_pass (λ x. test x.0) entries h) e

abbrev is_form : Word → Bool
is_form w = is_type_word w || is_expression_word w || is_generator_word w

reserved_form : (w : Word) → is_reserved w ≡ true → is_form w ≡ true
reserved_form w e =
    one_of _ _ (is_form w ≡ true) (λ e. one_of _ _ (is_form w ≡ true) (λ e. one_of _ _ (is_form w ≡ true) (λ e. one_of _ _ (is_form w ≡ true) (λ e. one_of _ _ (is_form w ≡ true)
    (λ e. among is_form type_words w (all_pass is_form type_words refl) e)
    (λ e. among is_form value_words w (all_pass is_form value_words refl) e) e)
    (λ e. among is_form operator_words w (all_pass is_form operator_words refl) e) e)
    (λ e. among is_form list_words w (all_pass is_form list_words refl) e) e)
    (λ e. among is_form generator_words w (all_pass is_form generator_words refl) e) e)
    (λ e. among is_form drawing_words w (all_pass is_form drawing_words refl) e) e

abbrev plain_types : List (Word × TypeData)
plain_types = (codes "Int", int_type) ∷ (codes "Bool", bool_type) ∷ []

abbrev formers_by_word : List (Word × Former)
formers_by_word = (codes "List", formers.List) ∷ (codes "Pair", formers.Pair) ∷ []

abbrev truths : List (Word × Bool)
truths = (codes "true", true) ∷ (codes "false", false) ∷ []

abbrev plain_generators : List (Word × (TypeData × GenData))
plain_generators = (codes "int", (int_type, GenData.any_number)) ∷ (codes "bool", (bool_type, GenData.any_truth)) ∷ (codes "size", (int_type, GenData.size)) ∷ []

form_reserved : (w : Word) → is_form w ≡ true → is_reserved w ≡ true
form_reserved w e =
    one_of (is_type_word w || is_expression_word w) (is_generator_word w) (is_reserved w ≡ true)
    (λ e. one_of (is_type_word w) (is_expression_word w) (is_reserved w ≡ true)
    (λ e. one_of (is_some (plain_type w)) (is_some (former w)) (is_reserved w ≡ true) (λ e. under is_reserved plain_types w refl e) (λ e. under is_reserved formers_by_word w refl e) e)
    (λ e. one_of (is_some (truth_of w)) (is_some (entry_of forms w)) (is_reserved w ≡ true) (λ e. under is_reserved truths w refl e) (λ e. under is_reserved forms w refl e) e) e)
    (λ e. one_of (is_some (plain_generator w) || is_some (entry_of gen_forms w)) (bytes_eq w (codes "commands")) (is_reserved w ≡ true)
    (λ e. one_of (is_some (plain_generator w)) (is_some (entry_of gen_forms w)) (is_reserved w ≡ true) (λ e. under is_reserved plain_generators w refl e) (λ e. under is_reserved gen_forms w refl e) e)
    (λ e. subst (λ (v : Word). is_reserved v ≡ true) (sym ((bytes_eq-Decides w (codes "commands")).0 e)) refl) e) e

pub reserved_are_forms : ReservedWordsAreForms
reserved_are_forms w = same_test (is_reserved w) (is_form w) (reserved_form w) (form_reserved w)
