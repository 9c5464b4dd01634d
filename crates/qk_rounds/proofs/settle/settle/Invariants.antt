use Rattle.std.proofs.Common.{◌≡◌, ◌+◌, ◌-◌, ◌*◌, ◌≤◌, length}
use Rattle.qk_rounds.specs.Windows.{exact}
use Rattle.qk_rounds.specs.Work.{settled_by}
use Rattle.qk_rounds.specs.Round.{Knows}
use Rattle.qk_rounds.specs.Window.{known_in}
use Rattle.qk_rounds.proofs.settle.settle.Given as goal

abbrev pub invariant-loop-done : goal.invariant-loop-done
invariant-loop-done g l =
    let rules = g.C.Course.rules l.course in
    let plans = g.C.Course.plans l.course in
    let outcome = g.T.Trial.outcome l.trial in
    let plan = plans.plan l.state in
    record {
      told : settled_by plans outcome (l.window - l._done) plan l.from l.slots l.work ≡ settled_by plans outcome l.window plan l.from l.fn.slots l.fn.begun;
      exact_so_far : l._done ≤ exact rules l.state l.slots;
      knows : Knows outcome l.from l.slots;
      same_length : length l.slots ≡ l.window;
      windows : l.work.windows ≡ l.fn.begun.windows;
      rounds : l.work.rounds ≤ l.fn.begun.rounds + l._done;
      trials : l.work.trials ≤ l.fn.begun.trials + 4096 * l._done;
      stored : known_in l.slots + l.fn.begun.trials ≤ known_in l.fn.slots + l.work.trials;
    }
