-- Small texts, computed.
use Rattle.std.proofs.Common.{◌≡◌, [], ◌∷◌, ◌++◌, refl, codes, Some, None}
use Rattle.qk_syntax.specs.TextFault.{text_fault, fault}
use Rattle.qk_syntax.specs.Tokens.{opening, word, tokens}

stray : text_fault (codes "(prop a))") ≡ Some (fault 3 (record { line = 1; column = 9 }))
stray = refl

open_at_end : text_fault (codes "(prop a") ≡ Some (fault 4 (record { line = 1; column = 1 }))
open_at_end = refl

three_tokens : tokens (codes "( ;)" ++ 10 ∷ codes " -7") ≡ opening (record { line = 1; column = 1 }) ∷ word (record { line = 2; column = 2 }) (codes "-7") ∷ []
three_tokens = refl

word_ends_at_bad_byte : text_fault (codes "12a" ++ 128 ∷ []) ≡ Some (fault 5 (record { line = 1; column = 1 }))
word_ends_at_bad_byte = refl

comment_is_no_fault : text_fault (59 ∷ 128 ∷ 10 ∷ 97 ∷ []) ≡ None
comment_is_no_fault = refl

inner_open : text_fault (codes "(a (b) (c") ≡ Some (fault 4 (record { line = 1; column = 8 }))
inner_open = refl
