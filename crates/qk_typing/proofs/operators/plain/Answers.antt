use Rattle.qk_typing.proofs.Applying.{taken}
use Rattle.qk_typing.proofs.operators.plain.Goals as goal

pub returns : goal.returns
returns c = taken c.reversed.result c.args.parts.items c.loop-part.parts.items c.loop-part.backward.items c.reversed.ensures c.loop-part.invariant c.in_default.ensures.0
