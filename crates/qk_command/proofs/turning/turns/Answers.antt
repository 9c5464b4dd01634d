use Rattle.std.proofs.Common.{◌∙◌, ◌-◌, ◌+◌, sym, ap}
use Rattle.qk_command.proofs.Stepping.{after_turn}
use Rattle.qk_command.specs.TurnsView.{turned_then}
use Rattle.qk_command.proofs.turning.turns.Goals as goal

pub returns-in-Crash : goal.returns-in-Crash
returns-in-Crash c =
    let after = after_turn c.args.core.now c.args.model.now c.args.size c.args.count c.loop.counter c.loop.commands c.turn.new.commands c.loop.state c.loop.kept c.split-own.result.0 c.split-own.result.1 c.loop.left
    c.in_ok-cause.field-0 c.loop-test.true c.split-own.ensures.left c.split-own.ensures.right c.in_ok-cause.ensures in
    sym (after ∙ ap (turned_then c.args.core.now c.args.model.now c.args.size (c.args.count - (c.loop.counter + 1)) c.split-own.result.1 c.turn.new.commands) c.in-Crash.is) ∙ c.loop.invariant

pub loop-preserved : goal.loop-preserved
loop-preserved c =
    let after = after_turn c.args.core.now c.args.model.now c.args.size c.args.count c.loop.counter c.loop.commands c.turn.new.commands c.loop.state c.loop.kept c.split-own.result.0 c.split-own.result.1 c.loop.left
    c.in_ok-cause.field-0 c.loop-test.true c.split-own.ensures.left c.split-own.ensures.right c.in_ok-cause.ensures in
    sym (after ∙ ap (turned_then c.args.core.now c.args.model.now c.args.size (c.args.count - (c.loop.counter + 1)) c.split-own.result.1 c.turn.new.commands) c.in-On.is) ∙ c.loop.invariant
