-- Where the reader may stand.
use Rattle.std.specs.Prelude.{◌≡◌, ℕ, ◌+◌, ◌≤◌, ◌≢◌, Bool, true, false, ◌||◌, List, length, ◌==◌}
use Rattle.qk_base.specs.declared.place.Place.{Place}
use Rattle.qk_syntax.specs.declared.cursor.Cursor.{Cursor}
use Rattle.qk_syntax.specs.Reader.{Mode, free, in_comment}
use Rattle.qk_syntax.specs.Words.{is_blank}

-- the cursor stands on a byte of a text that is not too long, or at its end
pub record IsWithin (bytes : List ℕ) (c : Cursor) : Type 0 where
  pub short : length bytes ≤ 1048576
  pub at : c.at ≤ length bytes
  pub line : c.place.line ≤ c.at + 1
  pub column : c.place.column ≤ c.at + 1

-- so many bytes on in the same line
abbrev pub moved : Place → ℕ → Place
moved p n = record { line = p.line; column = p.column + n }

-- a byte that is no blank and begins no comment
abbrev pub IsTokenByte : ℕ → Type 0
IsTokenByte b = (is_blank b ≡ false) × (b ≢ 59)

abbrev pub skipping : Bool → Mode
skipping true = in_comment
skipping false = free

-- no token begins with the byte
abbrev pub IsSkipped : Bool → ℕ → Type 0
IsSkipped comment b = (comment || is_blank b || b == 59) ≡ true
