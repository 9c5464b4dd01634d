-- The own parts so far and those of what is left make all.
use Rattle.std.proofs.Common.{◌≡◌, ◌+◌, ◌≤◌, length, map, drop}
use Rattle.qk_value.specs.View.{view_type, view_values}
use Rattle.qk_shrink.specs.Candidates.{own_parts}
use Rattle.qk_shrink.proofs.fields.count_own.Given as goal

abbrev pub invariant-loop-i : goal.invariant-loop-i
invariant-loop-i l = record {
  within : l.count ≤ l.i;
  whole : l.count + length (own_parts l.kind (map view_type (drop l.i l.types)) (view_values (drop l.i l.parts))) ≡ length (own_parts l.kind (map view_type l.types) (view_values l.parts));
}
