use Rattle.std.proofs.Common.{◌≡◌, ◌<◌, length, drop}
use Rattle.std.specs.Prelude.{IfSome}
use Rattle.std.specs.Option.{option_or}
use Rattle.qk_typing.specs.PartsView.{found_at}
use Rattle.qk_headers.specs.Scopes.{variable_of, variable_after}
use Rattle.qk_typing.proofs.scopes.innermost.Given as goal

-- what is left hides what was found
abbrev pub invariant-loop-index : goal.invariant-loop-index
invariant-loop-index l = record {
  found : variable_of l.scope l.name ≡ option_or (variable_after l.index (drop l.index l.scope) l.name) (found_at l.scope l.found);
  within : IfSome l.found (λ i. i < length l.scope);
}
