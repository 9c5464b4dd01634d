use Rattle.std.proofs.Common.{◌≡◌, ◌≤◌, length, List, [], ◌∷◌, ◌++◌, sym, ◌∙◌, ap, arith, length-append, length-set}
use Rattle.qk_base.specs.Judged.{Judged}
use Rattle.qk_rounds.specs.Placed.{placed}
use Rattle.qk_rounds.specs.Windows.{Slot}
use Rattle.qk_rounds.proofs.Placing.{placed_next, placed-none}
use Rattle.qk_rounds.proofs.store.store.Goals as goal

fewer : (answers rest : List Judged) (answer : Judged) → answers ≡ rest ++ answer ∷ [] → length rest ≤ length answers
fewer answers rest answer is = omega (arith, ap length is, length-append rest (answer ∷ []))

pub loop-outcome-preserved-in-Some : goal.loop-outcome-preserved-in-Some
loop-outcome-preserved-in-Some c =
    let inv = c.loop-outcome.invariant in
    let less = fewer c.loop-outcome.answers.items c.pop.new.self.items c.in-Some.outcome c.in-Some.ensures in
    record {
      told = placed_next c.args.due.now c.loop-outcome.answers.items c.pop.new.self.items c.in-Some.outcome c.loop-outcome.slots _ _ c.len.result c.in-Some.ensures c.len.ensures inv.few inv.told;
      few = omega (arith, less, inv.few);
      same_length = length-set {A = Slot} _ _ _ ∙ inv.same_length;
    }

pub loop-outcome-preserved : goal.loop-outcome-preserved
loop-outcome-preserved c =
    let inv = c.loop-outcome.invariant in
    let less = fewer c.loop-outcome.answers.items c.pop.new.self.items c.in-Some.outcome c.in-Some.ensures in
    record {
      told = placed_next c.args.due.now c.loop-outcome.answers.items c.pop.new.self.items c.in-Some.outcome c.loop-outcome.slots _ _ c.len.result c.in-Some.ensures c.len.ensures inv.few inv.told;
      few = omega (arith, less, inv.few);
      same_length = length-set {A = Slot} _ _ _ ∙ inv.same_length;
    }

pub returns : goal.returns
returns c =
    sym (placed-none c.args.due.now c.loop-outcome.slots)
    ∙ (ap (λ (a : List Judged). placed c.args.due.now a c.loop-outcome.slots) (sym c.in_default.ensures.0) ∙ c.loop-outcome.invariant.told)
