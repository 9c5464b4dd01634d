-- What contracts see of a library and of a sink that never fail.
use Rattle.std.specs.Prelude.{ℕ, ◌-◌, ◌&&◌, ◌++◌, Bool, min, nat_le, List, [], Option, Some, None, take, drop, length, unwrap_or, if◌then◌else◌}
use Rattle.qk_base.specs.Shelf.{File, held}

-- files in the order in which they were added, the most bytes of one read, and what is left of the open file
pub record CalmShelf : Type 0 where
  pub files : List File
  pub most : ℕ
  pub left : List ℕ

-- every name is held: one that was not added has no bytes
abbrev pub content : List File → List ℕ → List ℕ
content files name = unwrap_or (held files name) []

-- how many bytes a read gives
abbrev pub calm_given : CalmShelf → ℕ → ℕ
calm_given s room = min (min s.most room) (length s.left)

-- the bytes that are kept, the most bytes of one write, the room that is left for keeping, and whether no byte was left out
pub record CalmSheet : Type 0 where
  pub bytes : List ℕ
  pub most : ℕ
  pub room : ℕ
  pub whole : Bool

-- how many bytes a write takes of a piece
abbrev pub calm_taken : CalmSheet → List ℕ → ℕ
calm_taken s piece = min s.most (length piece)

-- how many of the bytes that it takes a write keeps
abbrev pub calm_kept : CalmSheet → List ℕ → ℕ
calm_kept s piece = min (calm_taken s piece) s.room

-- after a write the bytes that fit are kept, and it is whole no longer where one of those that were taken does not fit
abbrev pub after_calm_write : CalmSheet → List ℕ → CalmSheet
after_calm_write s piece = record s {
  bytes = s.bytes ++ take (calm_kept s piece) piece;
  room = s.room - calm_kept s piece;
  whole = s.whole && nat_le (calm_taken s piece) s.room;
}

-- the bytes are told as long as none was left out
abbrev pub told : CalmSheet → Option (List ℕ)
told s = if s.whole then Some s.bytes else None
