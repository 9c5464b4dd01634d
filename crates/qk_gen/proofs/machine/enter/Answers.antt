use Rattle.std.proofs.Common.{arith}
use Rattle.std.proofs.lemmas.Grind.{common_steps}
use Rattle.qk_gen.proofs.UnitsLaws.{drawing_zero, drawing_some}
use Rattle.qk_gen.proofs.machine.enter.Goals as goal

pub returns-then-left-eq0 : goal.returns-then-left-eq0
returns-then-left-eq0 c = rw (c.if-left-eq0.true, drawing_zero)

pub returns-in-None : goal.returns-in-None
returns-in-None c =
    grind (arith, common_steps, drawing_some c.args.core.now.functions c.args.core.now.generators c.args.generator c.args.args.items c.args.size c.args.g c.args.left.now c.if-left-eq0.false, c.body_of.ensures, c.in-None.ensures)

pub returns-in_ok-next-in-Some : goal.returns-in_ok-next-in-Some
returns-in_ok-next-in-Some c =
    grind (arith, common_steps, drawing_some c.args.core.now.functions c.args.core.now.generators c.args.generator c.args.args.items c.args.size c.args.g c.args.left.now c.if-left-eq0.false, c.body_of.ensures, c.in-Some.ensures)
