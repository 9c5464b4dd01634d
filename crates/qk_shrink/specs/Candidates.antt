-- The candidates of a value, by its type: the values that a shrink tries in its place, in order. Repeated ones count each.
use Rattle.std.specs.Prelude.{ℕ, Bool, false, nat_eq, List, [], ◌∷◌, ◌++◌, map, if◌then◌else◌, Option, Some, None}
use Rattle.qk_value.specs.Data.{Data, int, bool, list, pair, made, Datas, end, more, datas_of, listed_data}
use Rattle.qk_value.specs.Kinds.{MakerData, KindData, maker_of}
use Rattle.qk_value.specs.Types.{TypeData, int_type, bool_type, list_type, pair_type, made_type}
use Rattle.qk_shrink.specs.Blocks.{removals}
use Rattle.qk_shrink.specs.Numbers.{number_candidates, truth_candidates}

-- the types of a maker's fields; none where there is no such maker
abbrev pub fields_of : Option MakerData → List TypeData
fields_of None = []
fields_of (Some maker) = maker.fields

-- whether a field has the user type of that number
abbrev pub is_made : ℕ → TypeData → Bool
is_made k int_type = false
is_made k bool_type = false
is_made k (list_type t) = false
is_made k (pair_type t u) = false
is_made k (made_type l) = nat_eq l k

-- a part, where its field has the user type of that number
abbrev pub own_part : ℕ → TypeData → Data → List Data
own_part k t d = if is_made k t then d ∷ [] else []

-- the parts whose field has the user type of that number, left to right
abbrev pub own_parts : ℕ → List TypeData → Datas → List Data
own_parts k (t ∷ ts) (more d ds) = own_part k t d ++ own_parts k ts ds
own_parts k ts ds = []

abbrev mutual
  -- a list: without each of its blocks, and then each item's candidates in its place. A pair: each part's in its place. A value of
  -- a user type: the parts that have its own type, and then each part's candidates in its place.
  pub value_candidates : List KindData → TypeData → Data → List Data
  value_candidates kinds int_type (int n) = map int (number_candidates n)
  value_candidates kinds bool_type (bool b) = map bool (truth_candidates b)
  value_candidates kinds (list_type t) (list ds) = map list (map datas_of (removals (listed_data ds)) ++ items_in_place kinds t ds)
  value_candidates kinds (pair_type t u) (pair a b) = map (λ c. pair c b) (value_candidates kinds t a) ++ map (pair a) (value_candidates kinds u b)
  value_candidates kinds (made_type k) (made l m ds) = own_parts l (fields_of (maker_of kinds l m)) ds ++ map (made l m) (parts_in_place kinds (fields_of (maker_of kinds l m)) ds)
  value_candidates kinds t d = []

  -- for each item, left to right, each of its candidates in its place
  pub items_in_place : List KindData → TypeData → Datas → List Datas
  items_in_place kinds t end = []
  items_in_place kinds t (more d ds) = map (λ c. more c ds) (value_candidates kinds t d) ++ map (more d) (items_in_place kinds t ds)

  -- for each part, left to right, each of its candidates in its place
  pub parts_in_place : List KindData → List TypeData → Datas → List Datas
  parts_in_place kinds (t ∷ ts) (more d ds) = map (λ c. more c ds) (value_candidates kinds t d) ++ map (more d) (parts_in_place kinds ts ds)
  parts_in_place kinds ts ds = []
