use Rattle.std.proofs.Common.{rules, ◌≡◌, true, List, length, take, drop, ◌++◌, sym, ◌∙◌, ap}
use Rattle.qk_rounds.specs.declared.folded.Folded.{Folded}
use Rattle.qk_rounds.specs.Windows.{Slot, fold, answers_of, some_due, stored}
use Rattle.qk_rounds.proofs.Predicts.{Predicts, lawful_predicts}
use Rattle.qk_rounds.proofs.RoundParts.{repaired, written-whole}
use Rattle.qk_rounds.proofs.repair.round_paced.Goals as goal

pub returns-clause-ok : goal.returns-clause-ok
returns-clause-ok g c =
    let course = c.args.course.now in
    let run_rules = g.C.Course.rules course in
    let plans = g.C.Course.plans course in
    let proper = g.C.Course.proper course in
    let outcome = g.T.Trial.outcome c.args.trial.now in
    let laws = g.met.C.Course g.world.𝓛 g.world.𝓜 g.world.𝓡 ((λ s x. x), (λ x. x), (λ x. x), λ x. x) in
    let predicts : Predicts run_rules plans outcome proper
    = lawful_predicts run_rules plans (g.C.Course.takes course) proper (g.C.Course.goes_on course) (laws.lawful course) outcome c.requires.takes in
    let old : List Slot = c.args.slots.now in
    let folded : List Folded = c.as_slice-folded.result.now in
    let is_old : c.as_mut_slice-slots.result.now ≡ old = c.as_mut_slice-slots.ensures.value ∙ c.slots.view_is in
    let is_folded : folded ≡ c.in_ok-folded.folded.items = c.as_slice-folded.ensures in
    let is_fold : folded ≡ fold plans (plans.plan c.args.state.now) old
    = is_folded ∙ (c.in_ok-folded.ensures.folds ∙ ap (fold plans (plans.plan c.args.state.now)) (c.as_slice.ensures ∙ c.slots.view_is)) in
    let any : c.any_due.result ≡ true = search rules in
    let due : some_due folded ≡ true = ap some_due (is_folded ∙ sym c.as_slice-2.ensures) ∙ (sym c.any_due.ensures ∙ any) in
    let new : List Slot = take (length c.slots.inside.slots.items) (c.repair_due.new.slots ++ drop (length c.repair_due.new.slots) c.slots.inside.slots.items) in
    let is_new : new ≡ c.repair_due.new.slots = written-whole c.slots.inside.slots.items c.repair_due.new.slots (c.repair_due.auto.slots ∙ ap length c.as_mut_slice-slots.ensures.value) in
    let are_stored : new ≡ stored folded (answers_of outcome c.args.from folded) old
    = is_new ∙ (c.in_ok-count.ensures.stores ∙ ap (stored folded (answers_of outcome c.args.from folded)) is_old) in
    repaired run_rules plans outcome proper predicts c.args.state.now c.args.from old new folded c.in_ok-count.count
    c.requires.proper c.requires.running c.requires.knows is_fold are_stored c.in_ok-count.ensures.count due
