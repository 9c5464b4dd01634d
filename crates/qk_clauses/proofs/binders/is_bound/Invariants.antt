-- What is left comes to what the whole does.
use Rattle.std.proofs.Common.{◌≡◌, drop, map}
use Rattle.std.specs.List.{list_any}
use Rattle.std.specs.Str.{bytes_eq}
use Rattle.qk_clauses.proofs.binders.is_bound.Given as goal

abbrev pub invariant-loop-binder : goal.invariant-loop-binder
invariant-loop-binder l = list_any (bytes_eq l.word) (map (λ b. b.name) l.before) ≡ list_any (bytes_eq l.word) (map (λ b. b.name) (drop l.binder-index l.before))
