use Rattle.std.proofs.Common.{◌≡◌, ◌+◌, drop, List, ◌↔◌}
use Rattle.qk_base.specs.Judged.{Judged}
use Rattle.qk_rounds.specs.Work.{committed}
use Rattle.qk_rounds.specs.Commit.{Committable}
use Rattle.qk_rounds.proofs.commit.commit.Given as goal

abbrev pub invariant-loop-i : goal.invariant-loop-i
invariant-loop-i g l =
    let rules = g.C.Course.rules l.course in
    let takes : Judged → Type 0 = λ o. g.C.Course.takes l.course o × g.K.Tally.takes l.fn.tally o in
    record {
      ready : Committable rules (g.C.Course.proper l.course) takes (drop l.i l.slots) l.state;
      taking : (other : Judged) → g.K.Tally.takes l.tally other ↔ g.K.Tally.takes l.fn.tally other;
      same_made : g.K.Tally.made l.tally ≡ g.K.Tally.made l.fn.tally;
      told : (done : List Judged) → (now : List Judged) × (g.K.Tally.stands_for l.fn.tally done → g.K.Tally.stands_for l.tally now)
          × (committed rules (drop l.i l.slots) l.state (l.from + l.i) now ≡ committed rules l.slots l.fn.state l.from done);
    }
