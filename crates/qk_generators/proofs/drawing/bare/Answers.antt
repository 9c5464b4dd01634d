use Rattle.qk_generators.proofs.DrawingLaws.{taken}
use Rattle.qk_core.specs.GenView.{view_gen}
use Rattle.qk_generators.specs.Drawing.{bare}
use Rattle.qk_generators.specs.DrawingView.{drawn_in}
use Rattle.std.proofs.Common.{map, refl}
use Rattle.qk_generators.proofs.drawing.bare.Goals as goal

pub returns : goal.returns
returns c = taken view_gen (λ gs. bare (map drawn_in gs)) c.reversed.result c.args.parts.items c.loop-part.parts.items c.loop-part.backward.items c.reversed.ensures c.loop-part.invariant c.in_default.ensures.0 refl
