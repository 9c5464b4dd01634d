-- What a text consists of: parentheses, words and bad bytes, each with its place.
use Rattle.std.specs.Prelude.{ℕ, Bool, false, ◌||◌, List, [], ◌∷◌, ◌++◌, ◌==◌, if◌then◌else◌}
use Rattle.std.specs.List.{fold, list_any}
use Rattle.qk_base.specs.declared.place.Place.{Place}
use Rattle.qk_syntax.specs.Places.{last_line, place_after}
use Rattle.qk_syntax.specs.Words.{is_blank, is_word_byte, word_of}

pub data Token : Type 0 where
  opening : Place → Token
  closing : Place → Token
  word : Place → List ℕ → Token
  bad : Place → Token

-- the last of these bytes stands in a comment: from a `;` on, a line is one
abbrev pub ends_in_comment : List ℕ → Bool
ends_in_comment bytes = list_any (λ b. b == 59) (last_line bytes)

abbrev pub ends_in_word : List ℕ → Bool
ends_in_word bytes = fold (λ _ b. is_word_byte b) false bytes

-- the token that begins with the first of the bytes, after those before, if one does
abbrev pub token_at : List ℕ → List ℕ → List Token
token_at before [] = []
token_at before (b ∷ bytes) =
    if ends_in_comment (before ++ b ∷ []) || is_blank b then []
    else (if b == 40 then opening (place_after before) ∷ []
    else (if b == 41 then closing (place_after before) ∷ []
    else (if is_word_byte b then (if ends_in_word before then [] else word (place_after before) (word_of (b ∷ bytes)) ∷ [])
    else bad (place_after before) ∷ [])))

-- the tokens that begin in the bytes, after those before
abbrev pub tokens_after : List ℕ → List ℕ → List Token
tokens_after before [] = []
tokens_after before (b ∷ bytes) = token_at before (b ∷ bytes) ++ tokens_after (before ++ b ∷ []) bytes

abbrev pub tokens : List ℕ → List Token
tokens bytes = tokens_after [] bytes
