use Rattle.std.proofs.Common.{◌≡◌, ◌+◌, ◌*◌, []}
use Rattle.qk_eval.specs.Pending.{outcome}
use Rattle.qk_eval.specs.Work.{frames_size, control_size, bodies_size}
use Rattle.qk_eval.proofs.evaluation.run.Given as goal

abbrev pub invariant-steps : goal.invariant-steps
invariant-steps l = outcome l.core.functions l.frames.items l.bound.items l.control l.left ≡ outcome l.core.functions [] l.fn.env.items l.fn.first l.fn.fuel

abbrev pub decreases-steps : goal.decreases-steps
decreases-steps l = l.left * bodies_size l.core.functions + control_size l.control + frames_size l.frames.items
