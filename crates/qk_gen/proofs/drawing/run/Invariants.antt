-- What the machine comes to from here is what it comes to from its first step.
use Rattle.std.proofs.Common.{◌≡◌, []}
use Rattle.qk_gen.specs.Pending.{outcome}
use Rattle.qk_gen.proofs.drawing.run.Given as goal

abbrev pub invariant-turns : goal.invariant-turns
invariant-turns l = outcome l.core.functions l.core.generators l.frames.items l.bound.items l.control l.left ≡ outcome l.core.functions l.core.generators [] l.fn.env.items l.fn.first l.fn.fuel
