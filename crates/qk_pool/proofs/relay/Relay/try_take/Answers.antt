use Rattle.std.proofs.Common.{arith, [], ◌∷◌, length, length-append, ap, subst}
use Rattle.crossbeam_queue.specs.Passes.{view}
use Rattle.qk_pool.specs.declared.taken.Taken.TheVariants.{Job, End}
use Rattle.qk_pool.specs.Numbers.{numbers_of}
use Rattle.qk_pool.specs.Steps.{Took}
use Rattle.qk_pool.proofs.Keeps.{takes}
use Rattle.qk_pool.proofs.Closing.{job_list, end_list, job_rises, job_room}
use Rattle.qk_pool.proofs.relay.Relay.try_take.Goals as goal

pub pop_as-requires-clause-rule : goal.pop_as-requires-clause-rule
pop_as-requires-clause-rule g c = (takes _ _ c.requires.taker.1 (omega (arith, c.requires.taker.2)), λ items views kept at. tt)

pub note-requires : goal.note-requires
note-requires g c =
    let t = c.args.taker.now in let v = view t.pass in let w = view c.pop_as.new.pass in
    let told : Took v (Job c.in-Job.number c.in-Job.input) w = subst (λ x. Took v x w) c.in-Job.is c.in_ok-number.ensures.rule in
    job_room c.in-Job.number t.numbers.spare t.numbers.items (numbers_of v.taken) t.rises t.list told.1.1 told.1.0 t.spare

pub invariant_of-taker-in-Job : goal.invariant_of-taker-in-Job
invariant_of-taker-in-Job g c =
    let t = c.args.taker.now in let v = view t.pass in let w = view c.pop_as.new.pass in
    let told : Took v (Job c.in-Job.number c.in-Job.input) w = subst (λ x. Took v x w) c.in-Job.is c.in_ok-number.ensures.rule in
    let long = length-append t.numbers.items (c.in-Job.number ∷ []) in let len = ap length c.note.ensures.items in
    record {
      list = job_list v w c.in-Job.number c.in-Job.input t.numbers.items c.note.new.numbers.items told.0 t.list c.note.ensures.items;
      spare = omega (arith, t.spare, c.note.ensures.spare);
      rises = job_rises c.in-Job.number t.numbers.items c.note.new.numbers.items (numbers_of v.taken) t.rises t.list told.1.1 c.note.ensures.items;
    }

pub invariant_of-taker-in-End : goal.invariant_of-taker-in-End
invariant_of-taker-in-End g c =
    let t = c.args.taker.now in let v = view t.pass in let w = view c.pop_as.new.pass in
    let told : Took v End w = subst (λ x. Took v x w) c.in-End.is c.in_ok-number.ensures.rule in
    record { list = end_list v w t.numbers.items told.0 t.list; spare = t.spare; rises = t.rises }
