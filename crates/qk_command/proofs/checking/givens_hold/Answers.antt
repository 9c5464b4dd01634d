use Rattle.std.proofs.Common.{◌∙◌}
use Rattle.qk_command.proofs.Stepping.{fails_here}
use Rattle.qk_command.proofs.checking.givens_hold.Goals as goal

pub returns-in-Fail : goal.returns-in-Fail
returns-in-Fail c =
    fails_here c.args.core.now.functions c.args.givens.now c.args.env.now c.loop-given.given-index c.loop-given.left c.given-item.result c.in_ok-rest.field-0 c.in-Fail.cause
    c.loop-given-test.true c.given-item.is c.in-Fail.is c.in_ok-rest.ensures
    ∙ c.loop-given.invariant
