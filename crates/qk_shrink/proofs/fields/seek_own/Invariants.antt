-- What is left of the number is sought among the own parts of what is left.
use Rattle.std.proofs.Common.{◌≡◌, map, drop}
use Rattle.qk_value.specs.Data.{datas_of}
use Rattle.qk_value.specs.View.{view_type}
use Rattle.qk_shrink.specs.Candidates.{own_parts}
use Rattle.qk_shrink.specs.Sought.{sought}
use Rattle.qk_shrink.proofs.fields.seek_own.Given as goal

abbrev pub invariant-loop-i : goal.invariant-loop-i
invariant-loop-i l =
    sought (own_parts l.kind (map view_type (drop l.i l.types)) (datas_of (drop l.i l.parts))) l.left ≡ sought (own_parts l.kind (map view_type l.types) (datas_of l.parts)) l.k
