-- What is left decides as the whole does.
use Rattle.std.proofs.Common.{◌≡◌, length, drop, map, Some}
use Rattle.qk_value.specs.Typing.{all_have_type, are_parts}
use Rattle.qk_value.specs.View.{view_values, view_type}
use Rattle.qk_value.proofs.+typing.Given as goal

abbrev pub invariant-typing::all_have_type-loop-item :
    goal.invariant-typing::all_have_type-loop-item
invariant-typing::all_have_type-loop-item l =
    all_have_type l.kinds (view_type l.ty) (view_values (drop l.item-index l.items)) ≡ all_have_type l.kinds (view_type l.ty) (view_values l.items)

abbrev pub invariant-typing::are_parts-loop-i : goal.invariant-typing::are_parts-loop-i
invariant-typing::are_parts-loop-i l = record {
  lengths : length l.parts ≡ length l.types;
  whole : are_parts l.kinds (Some (map view_type (drop l.i l.types))) (view_values (drop l.i l.parts)) ≡ are_parts l.kinds (Some (map view_type l.types)) (view_values l.parts);
}
