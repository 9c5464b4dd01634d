use Rattle.std.proofs.Common.{◌≡◌, take, map}
use Rattle.qk_headers.specs.Scopes.{types_of}
use Rattle.qk_value.specs.View.{view_type}
use Rattle.qk_headers.proofs.checking.param_types.Given as goal

abbrev pub invariant-loop-param : goal.invariant-loop-param
invariant-loop-param l = map view_type l.types.items ≡ types_of (take l.param-index l.params)
