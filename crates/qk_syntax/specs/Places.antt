-- Places in a text.
use Rattle.std.specs.Prelude.{ℕ, ◌+◌, List, [], ◌∷◌, ◌++◌, length, ◌==◌, if◌then◌else◌}
use Rattle.std.specs.List.{fold, count_by}
use Rattle.qk_base.specs.declared.place.Place.{Place}

-- the bytes of the line in which a text ends: those after its last line feed
abbrev pub last_line : List ℕ → List ℕ
last_line bytes = fold (λ line b. if b == 10 then [] else line ++ b ∷ []) [] bytes

-- the place of the byte that follows these: lines and columns are counted from 1, and columns in bytes
abbrev pub place_after : List ℕ → Place
place_after before = record { line = count_by (λ b. b == 10) before + 1; column = length (last_line before) + 1 }

-- the place of the first byte of a text
abbrev pub start : Place
start = place_after []
