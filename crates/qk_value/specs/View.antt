-- The data that values and types stand for.
use Rattle.std.specs.Prelude.{List, map}
use Rattle.qk_value.specs.Data.{Data, int, bool, list, pair, made, Datas, datas_of}
use Rattle.qk_value.specs.Types.{TypeData, int_type, bool_type, list_type, pair_type, made_type}
use Rattle.qk_value.specs.declared.ty.Ty.{Ty, fold-Ty}
use Rattle.qk_value.specs.declared.ty.Ty.TheOpen.{Ty-F}
use Rattle.qk_value.specs.declared.value.Value.{Value, fold-Value}
use Rattle.qk_value.specs.declared.value.Value.TheOpen.{Value-F}

-- one level, with each value inside already seen as its data
abbrev pub view_step : Value-F Data → Data
view_step (Value-F.Int n) = int n
view_step (Value-F.Bool b) = bool b
view_step (Value-F.List s) = list (datas_of s.items)
view_step (Value-F.Pair a b) = pair a.value b.value
view_step (Value-F.Made k m s) = made k m (datas_of s.items)

abbrev pub view_value : Value → Data
view_value = fold-Value Data view_step

abbrev pub view_values : List Value → Datas
view_values vs = datas_of (map view_value vs)

-- one level, with each type inside already seen as its data
abbrev pub type_step : Ty-F TypeData → TypeData
type_step Ty-F.Int = int_type
type_step Ty-F.Bool = bool_type
type_step (Ty-F.List t) = list_type t.value
type_step (Ty-F.Pair t u) = pair_type t.value u.value
type_step (Ty-F.Made k) = made_type k

abbrev pub view_type : Ty → TypeData
view_type = fold-Ty TypeData type_step
