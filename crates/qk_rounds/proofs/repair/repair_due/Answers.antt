use Rattle.std.proofs.Common.{rules, ◌≡◌, ◌≤◌, length, sym, ◌∙◌, ap, arith}
use Rattle.qk_rounds.specs.Due.{due_at}
use Rattle.qk_rounds.specs.Windows.{answers_of}
use Rattle.qk_rounds.proofs.Dues.{few_due, due_ready, due_within}
use Rattle.qk_rounds.proofs.RoundParts.{found, few_found, is_stored}
use Rattle.qk_rounds.proofs.Stored.{length-answers}
use Rattle.qk_rounds.proofs.repair.repair_due.Goals as goal

pub scan_due-requires-clause-few : goal.scan_due-requires-clause-few
scan_due-requires-clause-few g c κs within =
    let is : c.as_slice.result.now ≡ due_at 0 c.args.folded.now = c.as_slice.ensures ∙ c.in_ok-due.ensures in
    let few = few_due c.args.folded.now in
    rw is (omega (arith, few, c.requires.within, c.requires.few))

pub scan_due-requires-clause-ready : goal.scan_due-requires-clause-ready
scan_due-requires-clause-ready g c κs within =
    let is : c.as_slice.result.now ≡ due_at 0 c.args.folded.now = c.as_slice.ensures ∙ c.in_ok-due.ensures in
    rw is (due_ready (g.T.Trial.prepared c.args.trial.now) c.args.from (length c.args.slots.now) c.args.folded.now c.requires.within c.requires.among c.requires.small)

pub overflow_cast-count : goal.overflow_cast-count
overflow_cast-count g c =
    let outcome = g.T.Trial.outcome c.args.trial.now in
    let is : c.as_slice.result.now ≡ due_at 0 c.args.folded.now = c.as_slice.ensures ∙ c.in_ok-due.ensures in
    let are : c.in_ok-answers.answers.items ≡ answers_of outcome c.args.from c.args.folded.now
    = found outcome c.args.from c.args.folded.now c.as_slice.result.now c.in_ok-answers.answers.items is c.in_ok-answers.ensures in
    let same : c.len-count.result ≡ length (answers_of outcome c.args.from c.args.folded.now) = c.len-count.ensures ∙ ap length are in
    let most = length-answers outcome c.args.from c.args.folded.now in
    let small : c.len-count.result ≤ 4096 = omega (arith, same, most, c.requires.within, c.requires.few) in
    search rules

pub store-requires-clause-few : goal.store-requires-clause-few
store-requires-clause-few g c =
    let same : c.as_slice.result.now ≡ c.as_slice-2.result.now = c.as_slice.ensures ∙ sym c.as_slice-2.ensures in
    let few = few_found (g.T.Trial.outcome c.args.trial.now) c.args.from c.as_slice.result.now c.in_ok-answers.answers.items c.in_ok-answers.ensures in
    rw (← same) few

pub store-requires-clause-within : goal.store-requires-clause-within
store-requires-clause-within g c =
    let is : c.as_slice-2.result.now ≡ due_at 0 c.args.folded.now = c.as_slice-2.ensures ∙ c.in_ok-due.ensures in
    rw is (due_within (length c.args.slots.now) c.args.folded.now c.requires.within)

pub returns-clause-stores : goal.returns-clause-stores
returns-clause-stores g c =
    let outcome = g.T.Trial.outcome c.args.trial.now in
    let is : c.as_slice.result.now ≡ due_at 0 c.args.folded.now = c.as_slice.ensures ∙ c.in_ok-due.ensures in
    let is' : c.as_slice-2.result.now ≡ due_at 0 c.args.folded.now = c.as_slice-2.ensures ∙ c.in_ok-due.ensures in
    let are : c.in_ok-answers.answers.items ≡ answers_of outcome c.args.from c.args.folded.now
    = found outcome c.args.from c.args.folded.now c.as_slice.result.now c.in_ok-answers.answers.items is c.in_ok-answers.ensures in
    is_stored outcome c.args.from c.args.folded.now c.as_slice-2.result.now c.in_ok-answers.answers.items c.args.slots.now c.store.new.slots is' are c.requires.within c.store.ensures

pub returns-clause-count : goal.returns-clause-count
returns-clause-count g c =
    let outcome = g.T.Trial.outcome c.args.trial.now in
    let is : c.as_slice.result.now ≡ due_at 0 c.args.folded.now = c.as_slice.ensures ∙ c.in_ok-due.ensures in
    c.len-count.ensures ∙ ap length (found outcome c.args.from c.args.folded.now c.as_slice.result.now c.in_ok-answers.answers.items is c.in_ok-answers.ensures)
