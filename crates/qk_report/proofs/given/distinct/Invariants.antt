-- What is kept is the distinct names so far.
use Rattle.std.proofs.Common.{◌≡◌, map, take}
use Rattle.qk_report.specs.Tables.{distinct}
use Rattle.qk_report.proofs.given.distinct.Given as goal

abbrev pub invariant-loop-name : goal.invariant-loop-name
invariant-loop-name l = map (λ name. name.now) l.kept.items ≡ distinct (map (λ name. name.now) (take l.name-index l.names))
