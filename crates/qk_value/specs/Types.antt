-- What a type is, apart from where it lies in memory.
use Rattle.std.specs.Prelude.{ℕ, Bool, true, false, ◌&&◌, nat_eq}

pub data TypeData : Type 0 where
  int_type : TypeData
  bool_type : TypeData
  list_type : TypeData → TypeData
  pair_type : TypeData → TypeData → TypeData
  made_type : ℕ → TypeData

abbrev pub same_type : TypeData → TypeData → Bool
same_type int_type int_type = true
same_type bool_type bool_type = true
same_type (list_type t) (list_type u) = same_type t u
same_type (pair_type t u) (pair_type v w) = same_type t v && same_type u w
same_type (made_type k) (made_type l) = nat_eq k l
same_type t u = false
