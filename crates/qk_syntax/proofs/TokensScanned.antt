-- The tokens of a text, found byte by byte.
use Rattle.std.proofs.Common.{◌≡◌, ℕ, ◌+◌, Bool, true, false, cond, ◌||◌, List, [], ◌∷◌, ◌++◌, length, eqb, refl, sym, ap, ◌∙◌, arith, count_by}
use Rattle.std.proofs.lemmas.Bool.Decides.{nat_tests}
use Rattle.std.proofs.lemmas.List.{length_push}
use Rattle.std.proofs.lemmas.List.Folds.{list_any-append}
use Rattle.std.proofs.lemmas.List.Sums.{fold_push, sum_by_push}
use Rattle.std.specs.List.{list_any}
use Rattle.qk_base.specs.declared.place.Place.{Place}
use Rattle.qk_syntax.specs.Places.{last_line, place_after}
use Rattle.qk_syntax.specs.Reader.{Mode, free, in_word, in_comment, mode_by, next_mode, next_place, token_of, scan}
use Rattle.qk_syntax.specs.Tokens.{Token, opening, closing, word, bad, ends_in_comment, ends_in_word, token_at, tokens_after, tokens}
use Rattle.qk_syntax.specs.Words.{is_blank, is_word_byte, word_of}

mode_of : Bool → Bool → Mode
mode_of true w = in_comment
mode_of false true = in_word
mode_of false false = free

mode_after : List ℕ → Mode
mode_after before = mode_of (ends_in_comment before) (ends_in_word before)

or_none : (t : Bool) → (t || false) ≡ t
or_none true = refl
or_none false = refl

by_feed : (before : List ℕ) (b : ℕ) (f : Bool) → list_any (λ c. eqb c 59) (cond f [] (last_line before ++ b ∷ [])) ≡ cond f false (ends_in_comment before || eqb b 59)
by_feed before b true = refl
by_feed before b false = list_any-append (λ c. eqb c 59) (last_line before) (b ∷ []) ∙ ap (λ t. ends_in_comment before || t) (or_none (eqb b 59))

commented : (before : List ℕ) (b : ℕ) → ends_in_comment (before ++ b ∷ []) ≡ cond (eqb b 10) false (ends_in_comment before || eqb b 59)
commented before b =
    ap (list_any (λ c. eqb c 59)) (fold_push (λ line c. cond (eqb c 10) [] (line ++ c ∷ [])) [] before b)
    ∙ by_feed before b (eqb b 10)

worded : (before : List ℕ) (b : ℕ) → ends_in_word (before ++ b ∷ []) ≡ is_word_byte b
worded before b = fold_push (λ (_ : Bool) c. is_word_byte c) false before b

mode_bits : (c w f m v : Bool) → (f ≡ true → m ≡ false) → (f ≡ true → v ≡ false) → mode_of (cond f false (c || m)) v ≡ mode_by f m v (mode_of c w)
unfolding mode_of
mode_bits true w true m v h k = ap (mode_of false) (k refl)
mode_bits true w false m v h k = refl
mode_bits false true true m v h k = ap (mode_of false) (k refl) ∙ sym (ap (λ t. mode_by true t v in_word) (h refl) ∙ ap (λ t. mode_by true false t in_word) (k refl))
mode_bits false false true m v h k = ap (mode_of false) (k refl) ∙ sym (ap (λ t. mode_by true t v free) (h refl) ∙ ap (λ t. mode_by true false t free) (k refl))
mode_bits false true false true v h k = refl
mode_bits false true false false true h k = refl
mode_bits false true false false false h k = refl
mode_bits false false false true v h k = refl
mode_bits false false false false true h k = refl
mode_bits false false false false false h k = refl

feed_is_no_semicolon : (b : ℕ) → eqb b 10 ≡ true → eqb b 59 ≡ false
feed_is_no_semicolon b h = grind (arith, nat_tests)

feed_is_no_word : (b : ℕ) → eqb b 10 ≡ true → is_word_byte b ≡ false
feed_is_no_word b h = grind (arith, nat_tests)

feed_is_blank : (b : ℕ) → eqb b 10 ≡ true → is_blank b ≡ true
feed_is_blank b h = grind (arith, nat_tests)

mode_step : (before : List ℕ) (b : ℕ) → mode_after (before ++ b ∷ []) ≡ next_mode (mode_after before) b
unfolding mode_after
mode_step before b =
    ap (λ c. mode_of c (ends_in_word (before ++ b ∷ []))) (commented before b)
    ∙ ap (mode_of (cond (eqb b 10) false (ends_in_comment before || eqb b 59))) (worded before b)
    ∙ mode_bits (ends_in_comment before) (ends_in_word before) (eqb b 10) (eqb b 59) (is_word_byte b) (feed_is_no_semicolon b) (feed_is_no_word b)

same_place : (a b c d : ℕ) → a ≡ c → b ≡ d → (let p : Place = record { line = a; column = b } in p) ≡ (let q : Place = record { line = c; column = d } in q)
same_place a b c d e f = cc

place_bits : (f : Bool) (n b : ℕ) (line : List ℕ) → (let p : Place = record { line = n + cond f 1 0 + 1; column = length (cond f [] (line ++ b ∷ [])) + 1 } in p)
    ≡ cond f (record { line = n + 1 + 1; column = 1 }) (record { line = n + 1; column = length line + 1 + 1 })
place_bits true n b line = refl
place_bits false n b line = same_place _ _ _ _ (omega arith) (omega (arith, length_push line b))

place_step : (before : List ℕ) (b : ℕ) → place_after (before ++ b ∷ []) ≡ next_place (place_after before) b
place_step before b =
    same_place _ _ _ _ (ap (λ n. n + 1) (sum_by_push (λ c. cond (eqb c 10) 1 0) before b)) (ap (λ l. length l + 1) (fold_push (λ line c. cond (eqb c 10) [] (line ++ c ∷ [])) [] before b))
    ∙ place_bits (eqb b 10) (count_by (λ c. eqb c 10) before) b (last_line before)

-- what a byte gives, outside of comments
found : Bool → List Token → List Token
found skipped ts = cond skipped [] ts

none_by : (skipped : Bool) (ts : List Token) → skipped ≡ true → cond skipped [] ts ≡ []
none_by true ts e = refl
none_by false ts e = cc

absurd_bits : (m : Bool) → false ≡ true → false ≡ (false || m)
absurd_bits m e = cc

skipped_bits : (f blank m : Bool) → (f ≡ true → blank ≡ true) → (cond f false m || blank) ≡ (blank || m)
skipped_bits true true m h = refl
skipped_bits true false m h = absurd_bits m (h refl)
skipped_bits false true true h = refl
skipped_bits false true false h = refl
skipped_bits false false true h = refl
skipped_bits false false false h = refl

comment_bits : (f blank m : Bool) → (f ≡ true → blank ≡ true) → (cond f false (true || m) || blank) ≡ true
comment_bits true blank m h = h refl
comment_bits false blank m h = refl

words_of : Bool → Place → List ℕ → List Token
words_of w p bytes = cond w [] (word p (word_of bytes) ∷ [])

token_bits : (c w s b f m : Bool) (p : Place) (byte : ℕ) (bytes : List ℕ) → (is_blank byte ≡ b) → (eqb byte 59 ≡ m) → (f ≡ true → b ≡ true) → (cond f false (c || m) || b) ≡ s
    → cond s [] (cond (eqb byte 40) (opening p ∷ []) (cond (eqb byte 41) (closing p ∷ []) (cond (is_word_byte byte) (cond w [] (word p (word_of (byte ∷ bytes)) ∷ [])) (bad p ∷ [])))) ≡ token_of (mode_of c w) p byte bytes
unfolding mode_of
token_bits true w s b f m p byte bytes eb em h e = none_by s _ (sym e ∙ comment_bits f b m h)
token_bits false true s b f m p byte bytes eb em h e = ap (λ t. cond t [] (cond (eqb byte 40) (opening p ∷ []) (cond (eqb byte 41) (closing p ∷ []) (cond (is_word_byte byte) [] (bad p ∷ []))))) (sym e ∙ skipped_bits f b m h ∙ ap (λ t. t || m) (sym eb) ∙ ap (λ t. is_blank byte || t) (sym em))
token_bits false false s b f m p byte bytes eb em h e = ap (λ t. cond t [] (cond (eqb byte 40) (opening p ∷ []) (cond (eqb byte 41) (closing p ∷ []) (cond (is_word_byte byte) (word p (word_of (byte ∷ bytes)) ∷ []) (bad p ∷ []))))) (sym e ∙ skipped_bits f b m h ∙ ap (λ t. t || m) (sym eb) ∙ ap (λ t. is_blank byte || t) (sym em))

token_step : (before : List ℕ) (b : ℕ) (bytes : List ℕ) → token_at before (b ∷ bytes) ≡ token_of (mode_after before) (place_after before) b bytes
unfolding mode_after
token_step before b bytes = token_bits (ends_in_comment before) (ends_in_word before) (ends_in_comment (before ++ b ∷ []) || is_blank b) (is_blank b) (eqb b 10) (eqb b 59) (place_after before) b bytes refl refl (feed_is_blank b) (ap (λ t. t || is_blank b) (sym (commented before b)))

scanned_after : (bytes before : List ℕ) → tokens_after before bytes ≡ scan bytes (mode_after before) (place_after before)
scanned_after [] before = refl
scanned_after (b ∷ bytes) before =
    ap (λ ts. ts ++ tokens_after (before ++ b ∷ []) bytes) (token_step before b bytes)
    ∙ ap (λ ts. token_of (mode_after before) (place_after before) b bytes ++ ts) (scanned_after bytes (before ++ b ∷ []) ∙ ap (λ m. scan bytes m (place_after (before ++ b ∷ []))) (mode_step before b) ∙ ap (scan bytes (next_mode (mode_after before) b)) (place_step before b))

pub tokens_scanned : (bytes : List ℕ) → tokens bytes ≡ scan bytes free (place_after [])
unfolding mode_after mode_of
tokens_scanned bytes = scanned_after bytes []
