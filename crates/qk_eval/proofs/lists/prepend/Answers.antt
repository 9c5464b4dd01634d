use Rattle.std.proofs.Common.{arith}
use Rattle.std.proofs.lemmas.Grind.{common_steps}
use Rattle.qk_eval.specs.Falls.{level_seen}
use Rattle.qk_eval.proofs.lists.prepend.Goals as goal

pub in_row-requires-clause-depth : goal.in_row-requires-clause-depth
in_row-requires-clause-depth c =
    let seen = level_seen c.in-Some.level 0 c.deref.result.now c.in-Some.ensures.0 c.in-Some.ensures.1 in
    grind (arith, common_steps, seen, c.deref.ensures.value, c.requires.depth)
