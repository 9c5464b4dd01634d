-- What is left comes to what the whole does.
use Rattle.std.proofs.Common.{◌≡◌, drop, map}
use Rattle.std.specs.List.{list_any}
use Rattle.std.specs.Str.{bytes_eq}
use Rattle.qk_headers.proofs.signatures.is_taken.Given as goal

abbrev pub invariant-loop-variable : goal.invariant-loop-variable
invariant-loop-variable l = list_any (bytes_eq l.word) (map (λ v. v.name) l.before) ≡ list_any (bytes_eq l.word) (map (λ v. v.name) (drop l.variable-index l.before))
