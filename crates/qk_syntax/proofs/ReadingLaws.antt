-- What is read from a word on.
use Rattle.std.proofs.Common.{◌≡◌, ℕ, ◌+◌, ◌<◌, true, List, length, get_or, drop, ap, sym, ◌∙◌, Result}
use Rattle.qk_base.specs.declared.place.Place.{Place}
use Rattle.qk_base.specs.declared.place.Refusal.{Refusal}
use Rattle.qk_syntax.specs.Cursors.{moved}
use Rattle.qk_syntax.specs.Reader.{Stack, free, scan, step, go, reading}
use Rattle.qk_syntax.specs.Tokens.{word}
use Rattle.qk_syntax.specs.Words.{is_word_byte, word_of}
use Rattle.qk_syntax.proofs.ScanLaws.{scan_word}

pub reading_word : (bytes : List ℕ) (i : ℕ) (p : Place) (w : List ℕ) (s : Stack) (r : Result Stack Refusal) → i < length bytes → is_word_byte (get_or bytes i 0) ≡ true → w ≡ word_of (drop i bytes) → step s (word p w) ≡ r
    → reading (scan (drop i bytes) free p) s ≡ go r (reading (scan (drop (i + length w) bytes) free (moved p (length w))))
reading_word bytes i p w s r h e is k =
    ap (λ ts. reading ts s) (scan_word bytes i p h e)
    ∙ ap (λ (v : List ℕ). go (step s (word p v)) (reading (scan (drop (i + length v) bytes) free (moved p (length v))))) (sym is)
    ∙ ap (λ q. go q (reading (scan (drop (i + length w) bytes) free (moved p (length w))))) k
