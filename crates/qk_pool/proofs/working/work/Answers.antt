use Rattle.std.proofs.Common.{arith, ◌≡◌, ◌++◌, [], ◌∷◌, ap, sym, ◌∙◌, subst}
use Rattle.qk_totals.specs.Totals.{total}
use Rattle.qk_pool.specs.Each.{Each}
use Rattle.qk_pool.specs.Workers.{IsBacked}
use Rattle.qk_totals.proofs.Totals.{total_append}
use Rattle.qk_pool.specs.declared.taken.Taken.TheVariants.{Job, End}
use Rattle.qk_pool.specs.declared.worker.Found.{Found}
use Rattle.qk_pool.specs.Numbers.{is_end, ends_of}
use Rattle.qk_pool.specs.Tokens.{taken_of}
use Rattle.qk_pool.proofs.Counts.{end_number, found_more, job_number}
use Rattle.qk_pool.proofs.Backing.{backed_job, backed_same}
use Rattle.qk_pool.proofs.working.work.Goals as goal

pub returns-in-End : goal.returns-in-End
returns-in-End g c =
    let old = taken_of c.loop.worker.taker in let new = taken_of c.take.new.taker in
    let is : new ≡ old ++ End ∷ [] = subst (λ x. new ≡ old ++ x ∷ []) c.in-End.is c.take.ensures.taken in
    let sum = ap ends_of is ∙ total_append is_end old (End ∷ []) in
    (c.take.ensures.taker, omega (arith, c.loop.invariant.on), backed_same (g.T.Task.answers c.args.task.now) old new End c.loop.worker.found.items is c.loop.invariant.found, c.loop.invariant.numbers ∙ sym (end_number old new is))

pub loop-preserved : goal.loop-preserved
loop-preserved g c =
    let old = taken_of c.loop.worker.taker in let new = taken_of c.take.new.taker in
    let is : new ≡ old ++ Job c.in-Job.number c.in-Job.input ∷ [] = subst (λ x. new ≡ old ++ x ∷ []) c.in-Job.is c.take.ensures.taken in
    let sum = ap ends_of is ∙ total_append is_end old (Job c.in-Job.number c.in-Job.input ∷ []) in
    let answers = g.T.Task.answers c.args.task.now in
    let one : Found g.row.T-Answer.Denot = record { number = c.in-Job.number; answer = c.in_ok-answer-in-Job.answer } in
    let pushed : c.add.new.self.items ≡ c.loop.worker.found.items ++ one ∷ [] = c.in_ok-add-in-Job.ensures.ok in
    record {
      taker = c.take.ensures.taker;
      on = omega (arith, c.loop.invariant.on);
      found = subst (Each (IsBacked answers (λ h. total h new))) (sym pushed) (backed_job answers old new c.in-Job.number c.in-Job.input c.in_ok-answer-in-Job.answer c.loop.worker.found.items is c.in_ok-answer-in-Job.ensures c.loop.invariant.found);
      numbers = found_more c.loop.worker.found.items c.add.new.self.items one pushed ∙ ap (λ l. l ++ c.in-Job.number ∷ []) c.loop.invariant.numbers ∙ sym (job_number old new c.in-Job.number c.in-Job.input is);
    }
