use Rattle.std.proofs.Common.{◌≡◌, ◌<◌, [], ◌∷◌, ◌++◌, length, subst, sym, refl, ◌∙◌}
use Rattle.qk_scan.specs.declared.found.Found.{Found}
use Rattle.qk_scan.specs.Each.{Each}
use Rattle.qk_scan.specs.Slots.{IsFilled}
use Rattle.qk_scan.proofs.Eachs.{each_last, each_init}
use Rattle.qk_scan.proofs.Filling.{still_to_come}
use Rattle.qk_scan.proofs.slots.put_all.Goals as goal

pub put_one-requires-clause-truth : goal.put_one-requires-clause-truth
put_one-requires-clause-truth g c κs within =
    let j = g.J.Jobs in let js = c.args.jobs.now in
    let rest = c.pop.new.self.items in let next = c.in-Some.next in
    let items : c.loop-next.found.items ≡ rest ++ next ∷ [] = c.in-Some.ensures in
    let T : Found g.row.J-Answer.Denot → Type 0 = λ f. f.answer ≡ j.answer_at js f.number in
    each_last T rest next (subst (Each T) items c.loop-next.invariant.truth)

pub loop-next-preserved : goal.loop-next-preserved
loop-next-preserved g c =
    let j = g.J.Jobs in let js = c.args.jobs.now in let inv = c.loop-next.invariant in
    let rest = c.pop.new.self.items in let next = c.in-Some.next in
    let items : c.loop-next.found.items ≡ rest ++ next ∷ [] = c.in-Some.ensures in
    let T : Found g.row.J-Answer.Denot → Type 0 = λ f. f.answer ≡ j.answer_at js f.number in
    let true_all : Each T (rest ++ next ∷ []) = subst (Each T) items inv.truth in
    record {
      right = c.put_one.ensures.right;
      len = c.put_one.ensures.len ∙ inv.len;
      stays = λ n h. c.put_one.ensures.stays n (inv.stays n h);
      truth = each_init T rest next true_all;
      filled = λ n low h. still_to_come n next.number c.loop-next.slots.items c.put_one.new.slots.items c.loop-next.found.items rest next items refl (c.put_one.ensures.stays n)
          (λ e. subst (IsFilled c.put_one.new.slots.items) (sym e) (c.put_one.ensures.here (subst (λ k. k < length c.loop-next.slots.items) e (subst (λ k. n < k) c.put_one.ensures.len low))))
          (inv.filled n (subst (λ k. n < k) c.put_one.ensures.len low) h);
    }
