-- What is left comes to what the whole does.
use Rattle.std.proofs.Common.{◌≡◌, drop}
use Rattle.qk_clauses.specs.Clauses.{runs_after}
use Rattle.qk_clauses.proofs.clause_values.runs_named.Given as goal

abbrev pub invariant-loop-index : goal.invariant-loop-index
invariant-loop-index l = runs_after 0 l.place l.binders l.word ≡ runs_after l.index l.place (drop l.index l.binders) l.word
