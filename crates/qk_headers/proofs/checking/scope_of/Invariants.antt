use Rattle.std.proofs.Common.{◌≡◌, take}
use Rattle.qk_headers.proofs.checking.scope_of.Given as goal

abbrev pub invariant-loop-param : goal.invariant-loop-param
invariant-loop-param l = l.scope.items ≡ take l.param-index l.params
