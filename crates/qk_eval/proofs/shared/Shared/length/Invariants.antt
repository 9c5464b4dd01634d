use Rattle.std.proofs.Common.{◌≡◌, ◌+◌}
use Rattle.qk_eval.specs.Parts.{items_of, count}
use Rattle.qk_eval.proofs.shared.Shared.length.Given as goal

abbrev pub invariant-items : goal.invariant-items
invariant-items l = l.passed + count (items_of l.rest) ≡ count (items_of l.fn.self)
