-- A word is read as a token exactly where it is the text of one.
use Rattle.std.proofs.Common.{◌≡◌, ◌∙◌, ℕ, Bool, true, false, List, ◌++◌, take, drop, Some, None, option_map, decimal, codes, refl, sym, ap, subst, append_assoc, take-append-drop, if◌then◌else◌}
use Rattle.std.specs.Cmp.Lexicographic.{bytes_decides}
use Rattle.std.specs.Prelude.{option_and_then}
use Rattle.std.specs.Str.{bytes_eq}
use Rattle.qk_report.specs.declared.token_parsing.Fields.{Fields}
use Rattle.qk_report.specs.Token.{TokenData, token_text, path_text}
use Rattle.qk_report.specs.TokenReader.{fields_in, path_in, unmarked, with_path, token_in}
use Rattle.qk_report.specs.TokenWords.{IsTokenOf}
use Rattle.qk_report.proofs.NumberReading.{some_eq, none_some}
use Rattle.qk_report.proofs.FieldReading.{then_some, map_some, fields_text, fields_whole, fields_sound}
use Rattle.qk_report.proofs.PathReading.{path_sound, path_whole}

regrouped : (q a b c d e p s : List ℕ) → q ++ a ++ s ++ b ++ s ++ c ++ s ++ d ++ s ++ e ++ s ++ p ≡ q ++ (a ++ (s ++ (b ++ (s ++ (c ++ (s ++ (d ++ (s ++ (e ++ (s ++ p))))))))))
regrouped q a b c d e p s = simp append_assoc refl

abbrev fields_of : TokenData → Fields
fields_of t = record { property = t.property; seed = t.seed; attempt = t.attempt; size = t.size; fuel = t.fuel }

text_is : (t : TokenData) → token_text t ≡ codes "q1:" ++ fields_text (fields_of t) (path_text t.path)
text_is t = regrouped (codes "q1:") (decimal t.property) (decimal t.seed) (decimal t.attempt) (decimal t.size) (decimal t.fuel) (path_text t.path) (codes ":")

unmarked_sound : (word rest : List ℕ) → unmarked word ≡ Some rest → word ≡ codes "q1:" ++ rest
unmarked_sound word rest e = by (bytes_eq (take 3 word) (codes "q1:")) refl e
  where
    by : (b : Bool) → bytes_eq (take 3 word) (codes "q1:") ≡ b → (if b then Some (drop 3 word) else None) ≡ Some rest → word ≡ codes "q1:" ++ rest
    by true same k = sym (take-append-drop 3 word) ∙ ap (λ t. t ++ drop 3 word) ((bytes_decides (take 3 word) (codes "q1:")).0 same) ∙ ap (λ t. codes "q1:" ++ t) (some_eq (drop 3 word) rest k)
    by false same k = absurd (none_some rest k)

pub token_whole : (word : List ℕ) (t : TokenData) → IsTokenOf word t → token_in word ≡ Some t
token_whole word t h =
    let range = h.0 in
    let fields = fields_whole (fields_of t) (path_text t.path) (record { property = range.property; seed = range.seed; attempt = range.attempt; size = range.size; fuel = range.fuel }) in
    let path = path_whole t.path range.steps range.numbers in
    ap token_in (h.1 ∙ text_is t) ∙ ap (λ o. option_and_then (λ (p : Fields × List ℕ). option_map (with_path p.0) (path_in p.1)) o) fields ∙ ap (λ o. option_map (with_path (fields_of t)) o) path

pub token_sound : (word : List ℕ) (t : TokenData) → token_in word ≡ Some t → IsTokenOf word t
token_sound word t e =
    let found = then_some (λ (p : Fields × List ℕ). option_map (with_path p.0) (path_in p.1)) (option_and_then fields_in (unmarked word)) t e in
    let path = map_some (with_path found.0.0) (path_in found.0.1) t found.1.1 in
    let marked = then_some fields_in (unmarked word) found.0 found.1.0 in
    let fields = fields_sound marked.0 found.0 marked.1.1 in
    let steps = path_sound found.0.1 path.0 path.1.0 in
    let whole : word ≡ codes "q1:" ++ fields_text found.0.0 (path_text path.0) =
    unmarked_sound word marked.0 marked.1.0 ∙ ap (λ x. codes "q1:" ++ x) (fields.0 ∙ ap (fields_text found.0.0) steps.text) in
    subst (IsTokenOf word) path.1.1 (
      record {
        property = fields.1.property;
        seed = fields.1.seed;
        attempt = fields.1.attempt;
        size = fields.1.size;
        fuel = fields.1.fuel;
        steps = steps.few;
        numbers = steps.all;
      },
      whole ∙ sym (text_is (with_path found.0.0 path.0)),
    )

-- a word is the text of one token at most
pub one_token : (word : List ℕ) (t u : TokenData) → IsTokenOf word t → IsTokenOf word u → t ≡ u
one_token word t u a b = some_eq t u (sym (token_whole word t a) ∙ token_whole word u b)
