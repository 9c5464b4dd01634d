use Rattle.std.proofs.Common.{rules, arith, ◌≡◌, ◌++◌, ◌∷◌, [], sym, subst, None}
use Rattle.qk_scan.specs.Slots.{AreRight}
use Rattle.qk_scan.proofs.Filling.{right_snoc}
use Rattle.qk_scan.proofs.slots.empty_slots.Goals as goal

pub loop-made-init : goal.loop-made-init
loop-made-init g c =
    let empty : c.in_ok-slots.slots.items ≡ [] = search rules in
    record { in_range = omega arith; len = search rules; right = subst (AreRight (g.J.Jobs.answer_at c.args.jobs.now)) (sym empty) (λ n. tt) }

pub loop-made-preserved : goal.loop-made-preserved
loop-made-preserved g c =
    let pushed : c.push.new.self.items ≡ c.loop-made.slots.items ++ None ∷ [] = search rules in
    record {
      in_range = omega arith;
      len = search rules;
      right = subst (AreRight (g.J.Jobs.answer_at c.args.jobs.now)) (sym pushed) (right_snoc (g.J.Jobs.answer_at c.args.jobs.now) c.loop-made.slots.items c.loop-made.invariant.right);
    }
