-- Runs of word bytes.
use Rattle.std.proofs.Common.{◌≡◌, ℕ, ◌+◌, ◌<◌, ◌≤◌, true, false, cond, List, [], ◌∷◌, length, get_or, drop, ap, ◌∙◌, arith}
use Rattle.std.proofs.lemmas.List.{at_drop_more, at_drop_all}
use Rattle.qk_syntax.specs.Words.{is_word_byte, word_of}

-- the run goes on with a word byte
pub word_more : (bytes : List ℕ) (i : ℕ) → i < length bytes → is_word_byte (get_or bytes i 0) ≡ true → length (word_of (drop i bytes)) ≡ length (word_of (drop (i + 1) bytes)) + 1
word_more bytes i h e =
    at_drop_more (λ bs. length (word_of bs)) bytes i 0 h
    ∙ ap (λ b. length (cond b (get_or bytes i 0 ∷ word_of (drop (i + 1) bytes)) [])) e
    ∙ omega arith

-- and ends before any other byte
pub word_stops : (bytes : List ℕ) (i : ℕ) → i < length bytes → is_word_byte (get_or bytes i 0) ≡ false → length (word_of (drop i bytes)) ≡ 0
word_stops bytes i h e =
    at_drop_more (λ bs. length (word_of bs)) bytes i 0 h
    ∙ ap (λ b. length (cond b (get_or bytes i 0 ∷ word_of (drop (i + 1) bytes)) [])) e

-- or at the end
pub word_all : (bytes : List ℕ) (i : ℕ) → length bytes ≤ i → length (word_of (drop i bytes)) ≡ 0
word_all bytes i h = at_drop_all (λ bs. length (word_of bs)) bytes i h
