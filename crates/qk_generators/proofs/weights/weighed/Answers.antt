use Rattle.std.proofs.Common.{map, refl}
use Rattle.qk_core.specs.GenView.{view_weighted}
use Rattle.qk_generators.specs.DrawingView.{part_in}
use Rattle.qk_generators.proofs.DrawingLaws.{taken}
use Rattle.qk_generators.proofs.weights.weighed.Goals as goal

pub returns : goal.returns
returns c = taken view_weighted (λ ps. map (λ a. (a.weight, a.body.gen)) (map part_in ps)) c.reversed.result c.args.parts.items c.loop-part.parts.items c.loop-part.backward.items c.reversed.ensures c.loop-part.invariant c.in_default.ensures.0 refl
