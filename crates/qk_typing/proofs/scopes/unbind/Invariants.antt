use Rattle.std.proofs.Common.{◌≡◌, take, length}
use Rattle.qk_typing.proofs.scopes.unbind.Given as goal

abbrev pub invariant-loop-scope : goal.invariant-loop-scope
invariant-loop-scope l = take l.len l.scope.items ≡ take l.len l.fn.scope.items

abbrev pub decreases-loop-scope : goal.decreases-loop-scope
decreases-loop-scope l = length l.scope.items
