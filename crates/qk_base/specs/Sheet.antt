-- What contracts see of a report in memory.
use Rattle.std.specs.Prelude.{ℕ, ◌-◌, ◌||◌, ◌++◌, ◌==◌, Bool, min, List, take, length, if◌then◌else◌}
use Rattle.qk_base.specs.Shelf.{is_next, risen}

-- the bytes so far, the writes that are to fail, the most bytes of one write, the room that is left, the writes so far and the faults so far
pub record Sheet : Type 0 where
  pub bytes : List ℕ
  pub failing : List ℕ
  pub most : ℕ
  pub room : ℕ
  pub calls : ℕ
  pub faults : ℕ

-- a write fails exactly where it was to fail or no room is left
abbrev pub write_fails : Sheet → Bool
write_fails s = is_next s.failing s.calls || s.room == 0

-- how many bytes a write takes of a piece
abbrev pub accepted : Sheet → List ℕ → ℕ
accepted s piece = min (min s.most (length piece)) s.room

abbrev pub after_write : Sheet → List ℕ → Sheet
after_write s piece = if write_fails s
    then record s { calls = risen s.calls; faults = risen s.faults }
    else record s { bytes = s.bytes ++ take (accepted s piece) piece; room = s.room - accepted s piece; calls = risen s.calls }
