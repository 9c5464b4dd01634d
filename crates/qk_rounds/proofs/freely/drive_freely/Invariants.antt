use Rattle.std.proofs.Common.{◌≡◌, ℕ, ◌+◌, ◌^◌, ◌≤◌, List, ◌↔◌}
use Rattle.qk_base.specs.Judged.{Judged}
use Rattle.qk_schedule.specs.Sequential.{from, sequential}
use Rattle.qk_rounds.specs.Trial.{MayPrepare}
use Rattle.qk_rounds.proofs.freely.drive_freely.Given as goal

abbrev pub invariant-loop-stop : goal.invariant-loop-stop
invariant-loop-stop g l =
    let rules = g.C.Course.rules l.course in
    let outcome = g.T.Trial.outcome l.fn.trial in
    record {
      proper : g.C.Course.proper l.course l.state;
      left : rules.rest l.state + l.number ≤ 2 ^ 32;
      so_far : (done : List Judged) × g.K.Tally.stands_for l.tally done × (from rules outcome l.state l.number done ≡ sequential rules outcome);
      same_outcomes : g.T.Trial.outcome l.trial ≡ outcome;
      next : MayPrepare (g.T.Trial.prepared l.trial) l.number;
      taking : (other : Judged) → g.K.Tally.takes l.tally other ↔ g.K.Tally.takes l.fn.tally other;
      same_made : g.K.Tally.made l.tally ≡ g.K.Tally.made l.fn.tally;
    }

abbrev pub decreases-loop-stop : goal.decreases-loop-stop
decreases-loop-stop g l = (g.C.Course.rules l.course).rest l.state
