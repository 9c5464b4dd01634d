-- The true names that are left make the names whole.
use Rattle.std.proofs.Common.{◌≡◌, ◌++◌, drop, map}
use Rattle.qk_report.specs.Tables.{true_names}
use Rattle.qk_report.proofs.given.true_names.Given as goal

abbrev pub invariant-loop-index : goal.invariant-loop-index
invariant-loop-index l =
    map (λ name. name.now) l.chosen.items ++ true_names (map (λ name. name.now) (drop l.index l.names)) (drop l.index l.truths) ≡ true_names (map (λ name. name.now) l.names) l.truths
