-- Which values have which types.
use Rattle.std.specs.Prelude.{Bool, true, false, ◌&&◌, nat_eq, List, [], ◌∷◌, Option, Some, None}
use Rattle.qk_value.specs.Data.{Data, int, bool, list, pair, made, Datas, end, more}
use Rattle.qk_value.specs.Kinds.{MakerData, KindData, maker_of}
use Rattle.qk_value.specs.Types.{TypeData, int_type, bool_type, list_type, pair_type, made_type}

-- the types of a maker's fields, if there is such a maker
abbrev pub field_types : Option MakerData → Option (List TypeData)
field_types None = None
field_types (Some maker) = Some maker.fields

abbrev mutual
  pub has_type : List KindData → TypeData → Data → Bool
  has_type kinds int_type (int n) = true
  has_type kinds bool_type (bool b) = true
  has_type kinds (list_type t) (list ds) = all_have_type kinds t ds
  has_type kinds (pair_type t u) (pair a b) = has_type kinds t a && has_type kinds u b
  has_type kinds (made_type k) (made l m ds) = nat_eq k l && are_parts kinds (field_types (maker_of kinds l m)) ds
  has_type kinds t d = false

  pub all_have_type : List KindData → TypeData → Datas → Bool
  all_have_type kinds t end = true
  all_have_type kinds t (more d ds) = has_type kinds t d && all_have_type kinds t ds

  -- the parts of a value by a maker with these fields: as many, each of its field's type
  pub are_parts : List KindData → Option (List TypeData) → Datas → Bool
  are_parts kinds (Some []) end = true
  are_parts kinds (Some (t ∷ ts)) (more d ds) = has_type kinds t d && are_parts kinds (Some ts) ds
  are_parts kinds types ds = false
