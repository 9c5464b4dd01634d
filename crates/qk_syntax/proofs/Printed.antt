-- The canonical text of trees spells them again.
use Rattle.std.proofs.Common.{◌≡◌, ℕ, ◌+◌, ◌-◌, ◌<◌, true, false, cond, List, [], ◌∷◌, ◌++◌, length, drop, refl, sym, ap, ◌∙◌, arith, subst}
use Rattle.std.specs.Fmt.{signed_decimal}
use Rattle.std.specs.List.{list_all}
use Rattle.std.proofs.Math.Seq.{drop-append_seam}
use Rattle.std.proofs.lemmas.List.{append_assoc, append-nil}
use Rattle.qk_base.specs.declared.place.Place.{Place}
use Rattle.qk_syntax.specs.Canonical.{canonical, canonical_tree, canonical_parts, canonical_others, ReadableTree, ReadableTrees, Readable}
use Rattle.qk_syntax.specs.Cursors.{moved}
use Rattle.qk_syntax.specs.Places.{start}
use Rattle.qk_syntax.specs.PlainTrees.{PlainTree, number, name, list, PlainTrees, end, more, count, bare_list, Bares, bare_end, bare_more, bare, bares}
use Rattle.qk_syntax.specs.Reader.{free, scan, next_place}
use Rattle.qk_syntax.specs.Spelling.{SpellsTree, SpellsTrees, Spells}
use Rattle.qk_syntax.specs.Tokens.{Token, opening, closing, word, tokens}
use Rattle.qk_syntax.specs.Words.{is_word_byte, word_of}
use Rattle.qk_syntax.proofs.PrintedNumbers.{IsRun, printed_number, first_true, second_true}
use Rattle.qk_syntax.proofs.ScanLaws.{scan_word_list}
use Rattle.qk_syntax.proofs.TokensScanned.{tokens_scanned}

-- no word goes on here
abbrev pub Ends : List ℕ → Type 0
Ends [] = Unit {0}
Ends (b ∷ bytes) = is_word_byte b ≡ false

ends_word : (rest : List ℕ) → Ends rest → word_of rest ≡ []
ends_word [] h = refl
ends_word (b ∷ bytes) h = ap (λ t. cond t (b ∷ word_of bytes) []) h

run_is_word : (w rest : List ℕ) → list_all is_word_byte w ≡ true → Ends rest → word_of (w ++ rest) ≡ w
run_is_word [] rest e h = ends_word rest h
run_is_word (b ∷ w) rest e h =
    ap (λ t. cond t (b ∷ word_of (w ++ rest)) []) (first_true (is_word_byte b) (list_all is_word_byte w) e)
    ∙ ap (λ x. b ∷ x) (run_is_word w rest (second_true (is_word_byte b) (list_all is_word_byte w) e) h)

scan_run : (w rest : List ℕ) (p : Place) → IsRun w → Ends rest → scan (w ++ rest) free p ≡ word p w ∷ scan rest free (moved p (length w))
scan_run [] rest p k h = absurd (omega (arith, k.some))
scan_run (b ∷ w) rest p k h =
    scan_word_list b (w ++ rest) p (first_true (is_word_byte b) (list_all is_word_byte w) k.bytes)
    ∙ ap (λ (x : List ℕ). word p x ∷ scan (drop (length x) ((b ∷ w) ++ rest)) free (moved p (length x))) (run_is_word (b ∷ w) rest k.bytes h)
    ∙ ap (λ (x : List ℕ). word p (b ∷ w) ∷ scan x free (moved p (length (b ∷ w)))) (drop-append_seam (b ∷ w) rest)

-- the bytes, before the rest, spell trees like these
Again : ℕ → List ℕ → List ℕ → Place → PlainTree → Type 0
Again n bytes rest p t = (ts : List Token) × (u : PlainTree) × (q : Place) × (scan (bytes ++ rest) free p ≡ ts ++ scan rest free q) × SpellsTree n ts u × (bare u ≡ bare t)

AgainAll : ℕ → List ℕ → List ℕ → Place → PlainTrees → Type 0
AgainAll n bytes rest p ts = (tokens : List Token) × (us : PlainTrees) × (q : Place) × (scan (bytes ++ rest) free p ≡ tokens ++ scan rest free q) × SpellsTrees n tokens us × (bares us ≡ bares ts)

ends_others : (ts : PlainTrees) (rest : List ℕ) → Ends rest → Ends (canonical_others ts ++ rest)
ends_others end rest h = h
ends_others (more t ts) rest h = refl

one_and_others : (n : ℕ) (a b rest : List ℕ) (p : Place) (t : PlainTree) (ts : PlainTrees) → Again n a (b ++ rest) p t → ((q : Place) → AgainAll n b rest q ts) → AgainAll n (a ++ b) rest p (more t ts)
unfolding Again AgainAll
one_and_others n a b rest p t ts (toks, u, q, e, s, k) others =
    let o = others q in (
      toks ++ o.0,
      more u o.1,
      o.2,
      ap (λ x. scan x free p) (append_assoc a b rest) ∙ e ∙ ap (λ x. toks ++ x) o.3 ∙ sym (append_assoc toks o.0 (scan rest free o.2)),
      (toks, o.0, refl, s, o.4),
      ap (λ x. bare_more x (bares o.1)) k ∙ ap (bare_more (bare t)) o.5,
    )

in_parentheses : (n : ℕ) (parts rest : List ℕ) (p at : Place) (ts : PlainTrees) → 0 < n → AgainAll (n - 1) parts (41 ∷ rest) (next_place p 40) ts → Again n (40 ∷ parts ++ 41 ∷ []) rest p (list at ts)
unfolding Again AgainAll
in_parentheses n parts rest p at ts h (toks, us, q, e, s, k) = (
  opening p ∷ toks ++ closing q ∷ [],
  list p us,
  next_place q 41,
  ap (λ x. opening p ∷ scan x free (next_place p 40)) (append_assoc parts (41 ∷ []) rest) ∙ ap (λ x. opening p ∷ x) e ∙ ap (λ x. opening p ∷ x) (sym (append_assoc toks (closing q ∷ []) (scan rest free (next_place q 41)))),
  (toks, q, refl, h, s),
  ap bare_list k,
)

after_space : (n : ℕ) (bytes rest : List ℕ) (p : Place) (ts : PlainTrees) → AgainAll n bytes rest (next_place p 32) ts → AgainAll n (32 ∷ bytes) rest p ts
unfolding AgainAll
after_space n bytes rest p ts h = h

none_again : (n : ℕ) (rest : List ℕ) (p : Place) → AgainAll n [] rest p end
unfolding AgainAll
none_again n rest p = ([], end, p, refl, refl, refl)

mutual
  unfolding Again AgainAll

  tree_again : (t : PlainTree) (n : ℕ) (rest : List ℕ) (p : Place) → ReadableTree n t → Ends rest → Again n (canonical_tree t) rest p t
  tree_again (number at z) n rest p r h =
      let k = printed_number z r.0 r.1 in
      (word p (signed_decimal z) ∷ [], number p z, moved p (length (signed_decimal z)), scan_run (signed_decimal z) rest p k.0 h, (signed_decimal z, refl, k.1), refl)
  tree_again (name at w) n rest p r h = (word p w ∷ [], name p w, moved p (length w), scan_run w rest p (record { bytes = r.1; some = r.0 }) h, (refl, r.2), refl)
  tree_again (list at ts) n rest p r h = in_parentheses n (canonical_parts ts) rest p at ts r.0 (parts_again ts (n - 1) (41 ∷ rest) (next_place p 40) r.1 refl)

  parts_again : (ts : PlainTrees) (n : ℕ) (rest : List ℕ) (p : Place) → ReadableTrees n ts → Ends rest → AgainAll n (canonical_parts ts) rest p ts
  parts_again end n rest p r h = none_again n rest p
  parts_again (more t ts) n rest p r h = one_and_others n (canonical_tree t) (canonical_others ts) rest p t ts (tree_again t n (canonical_others ts ++ rest) p r.0 (ends_others ts rest h)) (λ q. others_again ts n rest q r.1 h)

  others_again : (ts : PlainTrees) (n : ℕ) (rest : List ℕ) (p : Place) → ReadableTrees n ts → Ends rest → AgainAll n (canonical_others ts) rest p ts
  others_again end n rest p r h = none_again n rest p
  others_again (more t ts) n rest p r h = after_space n (canonical_tree t ++ canonical_others ts) rest p (more t ts)
      (one_and_others n (canonical_tree t) (canonical_others ts) rest (next_place p 32) t ts (tree_again t n (canonical_others ts ++ rest) (next_place p 32) r.0 (ends_others ts rest h)) (λ q. others_again ts n rest q r.1 h))

after_feed : (n : ℕ) (bytes rest : List ℕ) (p : Place) (ts : PlainTrees) → AgainAll n bytes rest (next_place p 10) ts → AgainAll n (10 ∷ bytes) rest p ts
unfolding AgainAll
after_feed n bytes rest p ts h = h

lines_again : (ts : PlainTrees) (n : ℕ) (p : Place) → ReadableTrees n ts → AgainAll n (canonical ts) [] p ts
lines_again end n p r = none_again n [] p
lines_again (more t ts) n p r = one_and_others n (canonical_tree t) (10 ∷ canonical ts) [] p t ts (tree_again t n ((10 ∷ canonical ts) ++ []) p r.0 refl) (λ q. after_feed n (canonical ts) [] q ts (lines_again ts n (next_place q 10) r.1))

bare_count : Bares → ℕ
bare_count bare_end = 0
bare_count (bare_more b bs) = bare_count bs + 1

count_bare : (ts : PlainTrees) → count ts ≡ bare_count (bares ts)
unfolding bare_count
count_bare end = refl
count_bare (more t ts) = ap (λ n. n + 1) (count_bare ts)

spelled_again : (ts : PlainTrees) → Readable ts → AgainAll 200 (canonical ts) [] start ts → (us : PlainTrees) × Spells (canonical ts) us × (bares us ≡ bares ts)
unfolding AgainAll
spelled_again ts r (toks, us, q, e, s, k) =
    let scanned : tokens (canonical ts) ≡ toks = tokens_scanned (canonical ts) ∙ ap (λ x. scan x free start) (sym (append-nil (canonical ts))) ∙ e ∙ append-nil toks in
    let few : count us ≡ count ts = count_bare us ∙ ap bare_count k ∙ sym (count_bare ts) in
    (us, record { short = r.short; few = omega (arith, r.few, few); spelled = subst (λ (x : List Token). SpellsTrees 200 x us) (sym scanned) s }, k)

-- trees that a text can spell are spelled by their canonical text
pub canonical_spells : (ts : PlainTrees) → Readable ts → (us : PlainTrees) × Spells (canonical ts) us × (bares us ≡ bares ts)
canonical_spells ts r = spelled_again ts r (lines_again ts 200 start r.each)
