-- What is left to scan after blanks, comments and words.
use Rattle.std.proofs.Common.{◌≡◌, ℕ, ◌+◌, ◌<◌, ◌≤◌, Bool, true, false, cond, ◌||◌, List, [], ◌∷◌, ◌++◌, length, get_or, take, drop, refl, sym, ap, ◌∙◌, arith, eqb, add-zero, add_assoc, suc, subst, drop-cons}
use Rattle.std.proofs.lemmas.List.{at_drop_more, at_drop_all, drop-drop}
use Rattle.std.proofs.lemmas.Bool.Decides.{nat_tests}
use Rattle.qk_base.specs.declared.place.Place.{Place}
use Rattle.qk_syntax.specs.Cursors.{skipping, IsSkipped, moved}
use Rattle.qk_syntax.specs.Reader.{Mode, free, in_word, in_comment, next_mode, next_place, scan}
use Rattle.qk_syntax.specs.Tokens.{Token, opening, closing, word, bad}
use Rattle.qk_syntax.specs.Words.{is_blank, is_word_byte, word_of}

none_of : (b : Bool) (ts us : List Token) → b ≡ true → cond b [] us ++ ts ≡ ts
none_of true ts us e = refl
none_of false ts us e = cc

-- a byte that is skipped is no token
pub skips : (comment : Bool) (b : ℕ) (bytes : List ℕ) (p : Place) → IsSkipped comment b → scan (b ∷ bytes) (skipping comment) p ≡ scan bytes (next_mode (skipping comment) b) (next_place p b)
skips true b bytes p h = refl
skips false b bytes p h = none_of (is_blank b || eqb b 59) _ _ h

pub skips_at : (comment : Bool) (bytes : List ℕ) (i : ℕ) (p : Place) → i < length bytes → IsSkipped comment (get_or bytes i 0) → scan (drop i bytes) (skipping comment) p ≡ scan (drop (i + 1) bytes) (next_mode (skipping comment) (get_or bytes i 0)) (next_place p (get_or bytes i 0))
skips_at comment bytes i p h s = at_drop_more (λ bs. scan bs (skipping comment) p) bytes i 0 h ∙ skips comment (get_or bytes i 0) (drop (i + 1) bytes) p s

-- nothing is left to scan at the end
pub scan_end : (bytes : List ℕ) (i : ℕ) (m : Mode) (p : Place) → length bytes ≤ i → scan (drop i bytes) m p ≡ []
scan_end bytes i m p h = at_drop_all (λ bs. scan bs m p) bytes i h

-- a word byte is nothing else
record IsPlain (b : ℕ) : Type 0 where
  skipped : (is_blank b || eqb b 59) ≡ false
  opens : eqb b 40 ≡ false
  closes : eqb b 41 ≡ false
  comments : eqb b 59 ≡ false
  feeds : eqb b 10 ≡ false

plain_word : (b : ℕ) → is_word_byte b ≡ true → IsPlain b
plain_word b h = record {
  skipped = grind (arith, nat_tests);
  opens = grind (arith, nat_tests);
  closes = grind (arith, nat_tests);
  comments = grind (arith, nat_tests);
  feeds = grind (arith, nat_tests);
}

-- what a word byte gives, where its tests are such
at_word : (s o c w m f : Bool) (p q r : Place) (found : List Token) (bytes : List ℕ) → s ≡ false → o ≡ false → c ≡ false → w ≡ true → m ≡ false → f ≡ false →
    cond s [] (cond o (opening p ∷ []) (cond c (closing p ∷ []) (cond w found (bad p ∷ [])))) ++ scan bytes (cond m in_comment (cond w in_word free)) (cond f q r) ≡ found ++ scan bytes in_word r
at_word s o c w m f p q r found bytes e1 e2 e3 e4 e5 e6 = simp (e1, e2, e3, e4, e5, e6)

-- a byte of a word after its first one
inside_word : (b : ℕ) (bytes : List ℕ) (p : Place) → is_word_byte b ≡ true → scan (b ∷ bytes) in_word p ≡ scan bytes in_word (moved p 1)
inside_word b bytes p h = let f = plain_word b h in at_word (is_blank b || eqb b 59) (eqb b 40) (eqb b 41) (is_word_byte b) (eqb b 59) (eqb b 10) p _ (moved p 1) [] bytes f.skipped f.opens f.closes h f.comments f.feeds

first_of_word : (b : ℕ) (bytes : List ℕ) (p : Place) → is_word_byte b ≡ true → scan (b ∷ bytes) free p ≡ word p (word_of (b ∷ bytes)) ∷ scan bytes in_word (moved p 1)
first_of_word b bytes p h = let f = plain_word b h in at_word (is_blank b || eqb b 59) (eqb b 40) (eqb b 41) (is_word_byte b) (eqb b 59) (eqb b 10) p _ (moved p 1) (word p (word_of (b ∷ bytes)) ∷ []) bytes f.skipped f.opens f.closes h f.comments f.feeds

-- another byte ends the word
after_word : (w : Bool) (found : List Token) → w ≡ false → (p : Place) → cond w [] (bad p ∷ []) ≡ cond w found (bad p ∷ [])
after_word w found e p = rw e

word_ended : (b : ℕ) (bytes : List ℕ) (p : Place) → is_word_byte b ≡ false → scan (b ∷ bytes) in_word p ≡ scan (b ∷ bytes) free p
word_ended b bytes p h = ap (λ ts. cond (is_blank b || eqb b 59) [] (cond (eqb b 40) (opening p ∷ []) (cond (eqb b 41) (closing p ∷ []) ts)) ++ scan bytes (next_mode free b) (next_place p b)) (after_word (is_word_byte b) (word p (word_of (b ∷ bytes)) ∷ []) h p)

moved_none : (p : Place) → moved p 0 ≡ p
moved_none p = ap (λ (n : ℕ). let q : Place = record { line = p.line; column = n } in q) (add-zero p.column)

moved_twice : (p : Place) (m n : ℕ) → moved (moved p m) n ≡ moved p (m + n)
moved_twice p m n = ap (λ (n : ℕ). let q : Place = record { line = p.line; column = n } in q) (add_assoc p.column m n)

-- what is left after so many bytes
left : List ℕ → ℕ → Place → List Token
left bytes n p = scan (drop n bytes) free (moved p n)

left_more : (b : ℕ) (bytes : List ℕ) (n : ℕ) (p : Place) → left bytes n (moved p 1) ≡ left (b ∷ bytes) (suc n) p
unfolding left
left_more b bytes n p = let one : 1 + n ≡ suc n = omega arith in ap (λ q. scan (drop n bytes) free q) (moved_twice p 1 n ∙ ap (moved p) one)

in_word_by : (b : ℕ) (bytes : List ℕ) (p : Place) (w : Bool) → w ≡ is_word_byte b → scan bytes in_word (moved p 1) ≡ left bytes (length (word_of bytes)) (moved p 1) → scan (b ∷ bytes) in_word p ≡ left (b ∷ bytes) (length (cond w (b ∷ word_of bytes) [])) p
unfolding left
in_word_by b bytes p true e rest = inside_word b bytes p (sym e) ∙ rest ∙ left_more b bytes (length (word_of bytes)) p
in_word_by b bytes p false e rest = word_ended b bytes p (sym e) ∙ ap (λ q. scan (b ∷ bytes) free q) (sym (moved_none p))

in_word_scan : (bytes : List ℕ) (p : Place) → scan bytes in_word p ≡ left bytes (length (word_of bytes)) p
unfolding left
in_word_scan [] p = refl
in_word_scan (b ∷ bytes) p = in_word_by b bytes p (is_word_byte b) refl (in_word_scan bytes (moved p 1))

-- a word, and what is left after it
pub scan_word_list : (b : ℕ) (bytes : List ℕ) (p : Place) → is_word_byte b ≡ true → scan (b ∷ bytes) free p ≡ word p (word_of (b ∷ bytes)) ∷ scan (drop (length (word_of (b ∷ bytes))) (b ∷ bytes)) free (moved p (length (word_of (b ∷ bytes))))
unfolding left
scan_word_list b bytes p h =
    first_of_word b bytes p h
    ∙ ap (λ ts. word p (word_of (b ∷ bytes)) ∷ ts) (in_word_scan bytes (moved p 1) ∙ left_more b bytes (length (word_of bytes)) p ∙ ap (λ w. left (b ∷ bytes) (length (cond w (b ∷ word_of bytes) [])) p) (sym h))

ScansWord : List ℕ → Place → Type 0
ScansWord xs p = scan xs free p ≡ word p (word_of xs) ∷ scan (drop (length (word_of xs)) xs) free (moved p (length (word_of xs)))

scan_word_at : (bytes : List ℕ) (i : ℕ) (p : Place) → i < length bytes → is_word_byte (get_or bytes i 0) ≡ true → ScansWord (drop i bytes) p
unfolding ScansWord
scan_word_at bytes i p h w = subst (λ (xs : List ℕ). ScansWord xs p) (sym (drop-cons bytes i 0 h)) (scan_word_list (get_or bytes i 0) (drop (suc i) bytes) p w)

pub scan_word : (bytes : List ℕ) (i : ℕ) (p : Place) → i < length bytes → is_word_byte (get_or bytes i 0) ≡ true → scan (drop i bytes) free p ≡ word p (word_of (drop i bytes)) ∷ scan (drop (i + length (word_of (drop i bytes))) bytes) free (moved p (length (word_of (drop i bytes))))
unfolding ScansWord
scan_word bytes i p h w = scan_word_at bytes i p h w ∙ ap (λ rest. word p (word_of (drop i bytes)) ∷ scan rest free (moved p (length (word_of (drop i bytes))))) (drop-drop (length (word_of (drop i bytes))) i bytes)

-- the front of a text that is its word
front_by : (w : Bool) (b : ℕ) (bytes run : List ℕ) → take (length run) bytes ≡ run → take (length (cond w (b ∷ run) [])) (b ∷ bytes) ≡ cond w (b ∷ run) []
front_by true b bytes run e = ap (λ xs. b ∷ xs) e
front_by false b bytes run e = refl

pub front_word : (bytes : List ℕ) → take (length (word_of bytes)) bytes ≡ word_of bytes
front_word [] = refl
front_word (b ∷ bytes) = front_by (is_word_byte b) b bytes (word_of bytes) (front_word bytes)
