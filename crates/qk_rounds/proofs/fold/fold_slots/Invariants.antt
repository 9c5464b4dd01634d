use Rattle.std.proofs.Common.{◌≡◌, ◌≤◌, ◌++◌, drop, All, length}
use Rattle.qk_rounds.specs.Windows.{fold}
use Rattle.qk_rounds.proofs.fold.fold_slots.Given as goal

abbrev pub invariant-loop-slot : goal.invariant-loop-slot
invariant-loop-slot g l =
    let plans = g.C.Course.plans l.course in
    record {
      goes : g.C.Course.goes_on l.course l.plan;
      told : l.folded.items ++ fold plans l.plan (drop l.slot-index l.slots) ≡ fold plans (plans.plan l.state) l.slots;
      small : All (λ f. f.size ≤ 1000) l.folded.items;
      within : length l.folded.items ≤ l.slot-index;
    }
