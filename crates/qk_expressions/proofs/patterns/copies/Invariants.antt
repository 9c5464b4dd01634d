use Rattle.std.proofs.Common.{◌≡◌, map, take}
use Rattle.qk_value.specs.View.{view_type}
use Rattle.qk_expressions.proofs.patterns.copies.Given as goal

abbrev pub invariant-loop-ty : goal.invariant-loop-ty
invariant-loop-ty l = map view_type l.out.items ≡ map view_type (take l.ty-index l.types)
