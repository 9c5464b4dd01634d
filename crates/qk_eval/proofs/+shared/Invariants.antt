use Rattle.std.proofs.Common.{◌≤◌}
use Rattle.qk_eval.specs.Sizes.{drop_size}
use Rattle.qk_eval.proofs.+shared.Given as goal

abbrev pub invariant-shared::Shared::drop-loop-cell : goal.invariant-shared::Shared::drop-loop-cell
invariant-shared::Shared::drop-loop-cell l = drop_size l.self ≤ drop_size l.fn.self
