use Rattle.std.proofs.Common.{◌≡◌, ◌+◌, None, ◌↔◌}
use Rattle.qk_base.specs.Judged.{Judged}
use Rattle.qk_rounds.specs.Advance.{Advances}
use Rattle.qk_rounds.proofs.alone.stretch.Given as goal

abbrev pub invariant-loop-done : goal.invariant-loop-done
invariant-loop-done g l =
    let rules = g.C.Course.rules l.course in
    let outcome = g.T.Trial.outcome l.fn.trial in
    record {
      so_far : Advances rules outcome (g.C.Course.proper l.course) (g.K.Tally.stands_for l.fn.tally) (g.K.Tally.stands_for l.tally) l.fn.state l.fn.from l.state l.number None;
      place : l.number ≡ l.fn.from + l._done;
      running : rules.stop l.state ≡ None;
      same_outcomes : g.T.Trial.outcome l.trial ≡ outcome;
      prepared : g.T.Trial.prepared l.trial ≡ record { first = l.fn.from; count = l.count };
      taking : (other : Judged) → g.K.Tally.takes l.tally other ↔ g.K.Tally.takes l.fn.tally other;
      same_made : g.K.Tally.made l.tally ≡ g.K.Tally.made l.fn.tally;
    }
