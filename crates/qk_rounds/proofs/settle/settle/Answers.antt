use Rattle.std.proofs.Common.{◌-◌, ◌≤◌, List, length, ◌∙◌, arith}
use Rattle.qk_rounds.specs.Windows.{Slot, exact}
use Rattle.qk_rounds.specs.Round.{Repaired, Undue}
use Rattle.qk_rounds.proofs.Predicts.{Predicts, lawful_predicts}
use Rattle.qk_rounds.proofs.Settling.{told_on, settled_now, none_due_where_exact, round_adds, Adds}
use Rattle.qk_rounds.proofs.settle.settle.Goals as goal

pub returns-in-None : goal.returns-in-None
returns-in-None g c =
    let plans = g.C.Course.plans c.args.course.now in
    let outcome = g.T.Trial.outcome c.args.trial.now in
    let inv = c.loop-done.invariant in
    let window = c.len-window.result in
    let round : Undue plans c.args.state.now c.loop-done.slots c.round_paced.new.slots = rw c.in-None.is at c.in_ok-round_paced.ensures.ok in
    rw round.slots (settled_now plans outcome c.args.state.now c.args.from c.args.slots.now c.loop-done.slots c.args.begun c.loop-done.work window (window - c.loop-done._done)
    c.len-window.ensures inv.told (record {
      same_length = inv.same_length ∙ c.len-window.ensures;
      knows = inv.knows;
      none_due = round.none_due;
      windows = inv.windows;
      rounds = omega (arith, inv.rounds, c.len-window.ensures, c.loop-done-test.true);
      trials = omega (arith, inv.trials, c.len-window.ensures, c.loop-done-test.true);
      stored = inv.stored;
    }))

pub loop-done-preserved : goal.loop-done-preserved
loop-done-preserved g c =
    let run_rules = g.C.Course.rules c.args.course.now in
    let plans = g.C.Course.plans c.args.course.now in
    let outcome = g.T.Trial.outcome c.args.trial.now in
    let inv = c.loop-done.invariant in
    let round : Repaired run_rules plans outcome c.args.state.now c.args.from c.loop-done.slots c.round_paced.new.slots c.in-Some.count = rw c.in-Some.is at c.in_ok-round_paced.ensures.ok in
    let adds : Adds outcome c.args.from c.loop-done.slots c.round_paced.new.slots c.in-Some.count
    = round_adds run_rules plans outcome c.args.state.now c.args.from c.loop-done.slots c.round_paced.new.slots c.in-Some.count inv.knows round in
    record {
      told = told_on run_rules plans outcome c.args.state.now c.args.from c.loop-done.slots c.round_paced.new.slots c.loop-done.work c.len-window.result c.loop-done._done _ _ c.loop-done-test.true round inv.told;
      exact_so_far = let more = round.longer in let so_far = inv.exact_so_far in omega (arith, more, so_far);
      knows = adds.knows;
      same_length = adds.same_length ∙ inv.same_length;
      windows = inv.windows;
      rounds = omega (arith, inv.rounds);
      trials = omega (arith, inv.trials, adds.few, inv.same_length, c.len-window.ensures, c.requires.few);
      stored = omega (arith, inv.stored, adds.known);
    }

pub returns : goal.returns
returns g c =
    let course = c.args.course.now in
    let run_rules = g.C.Course.rules course in
    let plans = g.C.Course.plans course in
    let proper = g.C.Course.proper course in
    let outcome = g.T.Trial.outcome c.args.trial.now in
    let laws = g.met.C.Course g.world.𝓛 g.world.𝓜 g.world.𝓡 ((λ s x. x), (λ x. x), (λ x. x), λ x. x) in
    let predicts : Predicts run_rules plans outcome proper
    = lawful_predicts run_rules plans (g.C.Course.takes course) proper (g.C.Course.goes_on course) (laws.lawful course) outcome c.requires.takes in
    let inv = c.loop-done.invariant in
    let window = c.len-window.result in
    let slots : List Slot = c.loop-done.slots in
    let past : window ≤ c.loop-done._done = omega arith in
    let reached : c.loop-done._done ≤ window = omega arith in
    let whole : length slots ≤ exact run_rules c.args.state.now slots = let so_far = inv.exact_so_far in omega (arith, so_far, inv.same_length, past) in
    settled_now plans outcome c.args.state.now c.args.from c.args.slots.now slots c.args.begun c.loop-done.work window (window - c.loop-done._done)
    c.len-window.ensures inv.told (record {
      same_length = inv.same_length ∙ c.len-window.ensures;
      knows = inv.knows;
      none_due = none_due_where_exact run_rules plans outcome proper predicts slots c.args.state.now c.args.from c.requires.proper c.requires.running inv.knows whole;
      windows = inv.windows;
      rounds = omega (arith, inv.rounds, c.len-window.ensures, reached);
      trials = omega (arith, inv.trials, c.len-window.ensures, reached);
      stored = inv.stored;
    })
