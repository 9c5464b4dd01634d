-- What contracts see of files in memory.
use Rattle.std.specs.Prelude.{ℕ, ◌+◌, ◌-◌, ◌^◌, Bool, true, false, min, List, [], ◌∷◌, ◌++◌, Option, Some, None, nat_eq, drop, length, option_map, if◌then◌else◌}
use Rattle.std.specs.List.{list_any}
use Rattle.std.specs.Cmp.Lexicographic.{pointwise}

-- a file: its name and its bytes
pub record File : Type 0 where
  pub name : List ℕ
  pub bytes : List ℕ

-- files in the order in which they were added, the calls that are to fail, the most bytes of one read, the calls so far, the faults so far, and what is left of the open file
pub record Shelf : Type 0 where
  pub files : List File
  pub failing : List ℕ
  pub most : ℕ
  pub calls : ℕ
  pub faults : ℕ
  pub left : List ℕ

abbrev pub is_named : List ℕ → File → Bool
is_named name file = pointwise nat_eq file.name name

-- the bytes of the file of that name that was added last
abbrev pub held : List File → List ℕ → Option (List ℕ)
held [] name = None
held (f ∷ fs) name = elim (held fs name) [
  | Some bytes ↦ Some bytes
  | None ↦ if is_named name f then Some f.bytes else None
]

-- a count that stands still at its last value
abbrev pub risen : ℕ → ℕ
risen count = min (count + 1) (2 ^ 64 - 1)

-- whether the next call is one of those that are to fail
abbrev pub is_next : List ℕ → ℕ → Bool
is_next failing calls = list_any (λ call. nat_eq call (risen calls)) failing

-- an opening finds the file, where it was not to fail and the name is held
abbrev pub found : Shelf → List ℕ → Option (List ℕ)
found s name = if is_next s.failing s.calls then None else held s.files name

-- after an opening the whole file is left; after a failed one nothing is, and the faults have risen
abbrev pub opened : Shelf → Option (List ℕ) → Shelf
opened s None = record s { calls = risen s.calls; faults = risen s.faults; left = [] }
opened s (Some bytes) = record s { calls = risen s.calls; left = bytes }

-- how many bytes a read gives
abbrev pub given : Shelf → ℕ → ℕ
given s room = min (min s.most room) (length s.left)

-- after a read the rest is left; after a failed one the faults have risen
abbrev pub after_read : Shelf → ℕ → Shelf
after_read s room = if is_next s.failing s.calls
    then record s { calls = risen s.calls; faults = risen s.faults }
    else record s { calls = risen s.calls; left = drop (given s room) s.left }
