use Rattle.std.proofs.Common.{◌≡◌, List, length, ◌∙◌, ap}
use Rattle.qk_rounds.specs.Windows.{Slot, fold}
use Rattle.qk_rounds.proofs.Settling.{knows_unknown, begun_window}
use Rattle.qk_rounds.proofs.settle.settled_window.Goals as goal

pub settle-requires-clause-knows : goal.settle-requires-clause-knows
settle-requires-clause-knows g c κs within =
    rw c.in_ok-slots.ensures (knows_unknown (g.T.Trial.outcome c.args.trial.now) c.args.from c.args.window)

pub returns : goal.returns
returns g c =
    let plans = g.C.Course.plans c.args.course.now in
    let plan = plans.plan c.args.state.now in
    let folded : c.len-count.result ≡ length (fold plans plan c.settle.new.slots) =
    c.len-count.ensures ∙ (ap length c.in_ok-fold_slots.ensures.folds ∙ ap (λ (l : List Slot). length (fold plans plan l)) c.as_slice.ensures.same) in
    begun_window plans (g.T.Trial.outcome c.args.trial.now) c.args.window c.args.state.now c.args.from c.args.before c.in_ok-slots.slots c.settle.new.slots c.len-count.result c.in_ok-work.work
    c.in_ok-slots.ensures folded c.in_ok-work.ensures
