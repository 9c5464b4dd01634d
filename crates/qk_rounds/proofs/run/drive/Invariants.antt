use Rattle.std.proofs.Common.{◌≡◌, ◌↔◌}
use Rattle.qk_base.specs.Judged.{Judged}
use Rattle.qk_schedule.specs.Course.{TakesAll}
use Rattle.qk_rounds.specs.Trial.{MayPrepare}
use Rattle.qk_rounds.proofs.Driving.{Reached}
use Rattle.qk_rounds.proofs.run.drive.Given as goal

abbrev pub invariant-loop-stop : goal.invariant-loop-stop
invariant-loop-stop g l =
    let course = l.course in
    let outcome = g.T.Trial.outcome l.fn.trial in
    record {
      reached : Reached (g.C.Course.rules course) (g.C.Course.plans course) outcome (g.C.Course.proper course) l.window (g.K.Tally.stands_for l.tally) l.state l.number l.work;
      same_outcomes : g.T.Trial.outcome l.trial ≡ outcome;
      next : MayPrepare (g.T.Trial.prepared l.trial) l.number;
      takes : TakesAll (g.K.Tally.takes l.tally) outcome;
      taking : (other : Judged) → g.K.Tally.takes l.tally other ↔ g.K.Tally.takes l.fn.tally other;
      same_made : g.K.Tally.made l.tally ≡ g.K.Tally.made l.fn.tally;
    }

abbrev pub decreases-loop-stop : goal.decreases-loop-stop
decreases-loop-stop g l = (g.C.Course.rules l.course).rest l.state
