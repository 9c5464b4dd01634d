use Rattle.qk_engine.proofs.GeneratedLines.{lines_next, lines_end}
use Rattle.std.proofs.Common.{arith, ◌≤◌}
use Rattle.qk_engine.proofs.generating.generated_bytes.Goals as goal

pub loop-i-preserved : goal.loop-i-preserved
loop-i-preserved c = lines_next c.args.count c.loop-i.i _ _ _ c.loop-i-test.true c.in_ok-put_property.ensures c.loop-i.invariant

pub returns : goal.returns
returns c =
    let past : c.args.count ≤ c.loop-i.i = omega (arith, c.loop-i-test.false) in
    lines_end c.args.count c.loop-i.i _ _ past c.loop-i.invariant
