use Rattle.std.proofs.Common.{◌≡◌, ◌<◌, ◌∙◌, [], ◌∷◌, ◌++◌, length, subst, arith}
use Rattle.qk_pool.specs.declared.worker.Found.{Found}
use Rattle.qk_pool.specs.Each.{Each}
use Rattle.qk_pool.specs.Workers.{IsRight}
use Rattle.qk_pool.proofs.Counts.{fewer_found, is_low}
use Rattle.qk_pool.proofs.Eachs.{each_last, each_init}
use Rattle.qk_pool.proofs.Filling.{still_to_come}
use Rattle.qk_pool.proofs.slots.place.Goals as goal

pub put_one-requires-clause-number : goal.put_one-requires-clause-number
put_one-requires-clause-number g c κs within =
    is_low c.loop-next.found.items c.pop.new.self.items c.in-Some.next (length c.loop-next.slots.items) c.in-Some.ensures c.loop-next.invariant.low

pub put_one-requires-clause-right : goal.put_one-requires-clause-right
put_one-requires-clause-right g c κs within =
    let R : Found g.row.T-Answer.Denot → Type 0 = λ f. IsRight (g.F.Feed.inputs c.args.feed.now) (g.T.Task.answers c.args.task.now) f.number f.answer in
    each_last R c.pop.new.self.items c.in-Some.next (subst (Each R) c.in-Some.ensures c.loop-next.invariant.truth)

pub loop-next-preserved : goal.loop-next-preserved
loop-next-preserved g c =
    let R : Found g.row.T-Answer.Denot → Type 0 = λ f. IsRight (g.F.Feed.inputs c.args.feed.now) (g.T.Task.answers c.args.task.now) f.number f.answer in
    let inv = c.loop-next.invariant in let all = c.loop-next.found.items in let rest = c.pop.new.self.items in let next = c.in-Some.next in
    let items : all ≡ rest ++ next ∷ [] = c.in-Some.ensures in
    let len = c.put_one.ensures.length in
    record {
      right = c.put_one.ensures.right;
      len = len ∙ inv.len;
      filled = λ n low. still_to_come n c.loop-next.slots.items c.put_one.new.slots.items all rest next items c.put_one.ensures.stays c.put_one.ensures.here (inv.filled n (subst (λ k. n < k) len low));
      low = λ n far. fewer_found n all rest next items (inv.low n (omega (arith, far)));
      truth = each_init R rest next (subst (Each R) items inv.truth);
    }
