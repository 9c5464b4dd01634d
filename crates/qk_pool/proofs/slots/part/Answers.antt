use Rattle.std.proofs.Common.{arith, ◌≡◌, ◌++◌, [], ◌∷◌, length, length-append, All, ap, sym, ◌∙◌, subst}
use Rattle.qk_totals.specs.Totals.{total}
use Rattle.qk_totals.proofs.Gather.{all_snoc}
use Rattle.qk_pool.specs.declared.taker.Taker.{Taker}
use Rattle.qk_pool.specs.declared.worker.Worker.{Worker}
use Rattle.qk_pool.specs.Each.{Each}
use Rattle.qk_pool.specs.Numbers.{ends_of}
use Rattle.qk_pool.specs.Tokens.{taken_of, IsTakerOf}
use Rattle.qk_pool.specs.Workers.{IsDone, weights_of}
use Rattle.qk_pool.proofs.Counts.{taker_counts}
use Rattle.qk_pool.proofs.Backing.{backed_more, weights_grow, weight_last}
use Rattle.qk_pool.proofs.slots.part.Goals as goal

pub pour-requires-clause-found : goal.pour-requires-clause-found
pour-requires-clause-found g c κs within =
    let D : Worker g.row.T-Answer.Denot → Type 0 = IsDone c.args.relay.now (g.T.Task.answers c.args.task.now) in
    let w = c.in-Some.worker in
    let items : c.loop-worker.workers.items ≡ w ∷ c.pop_front.new.self.items = c.in-Some.ensures.items in
    let all : Each D (w ∷ c.pop_front.new.self.items) = subst (Each D) items c.loop-worker.invariant.done in
    let pushed : c.add.new.self.items ≡ c.loop-worker.takers.items ++ w.taker ∷ [] = c.in_ok-add.ensures.ok in
    backed_more (g.T.Task.answers c.args.task.now) (λ h. total h (taken_of w.taker)) (weights_of c.add.new.self.items) (weight_last c.loop-worker.takers.items c.add.new.self.items w.taker pushed) w.found.items all.0.2

pub pour-requires-clause-all : goal.pour-requires-clause-all
pour-requires-clause-all g c κs within =
    let w = c.in-Some.worker in
    let pushed : c.add.new.self.items ≡ c.loop-worker.takers.items ++ w.taker ∷ [] = c.in_ok-add.ensures.ok in
    backed_more (g.T.Task.answers c.args.task.now) (weights_of c.loop-worker.takers.items) (weights_of c.add.new.self.items) (weights_grow c.loop-worker.takers.items c.add.new.self.items w.taker pushed) c.loop-worker.all.items c.loop-worker.invariant.found

pub loop-worker-preserved : goal.loop-worker-preserved
loop-worker-preserved g c =
    let D : Worker g.row.T-Answer.Denot → Type 0 = IsDone c.args.relay.now (g.T.Task.answers c.args.task.now) in
    let P : Taker → Type 0 = λ t. IsTakerOf c.args.relay.now t × (ends_of (taken_of t) ≡ 1) in
    let w = c.in-Some.worker in let inv = c.loop-worker.invariant in
    let items : c.loop-worker.workers.items ≡ w ∷ c.pop_front.new.self.items = c.in-Some.ensures.items in
    let all : Each D (w ∷ c.pop_front.new.self.items) = subst (Each D) items inv.done in
    let pushed : c.add.new.self.items ≡ c.loop-worker.takers.items ++ w.taker ∷ [] = c.in_ok-add.ensures.ok in
    let a = ap length items in let b = ap length pushed ∙ length-append c.loop-worker.takers.items (w.taker ∷ []) in
    record {
      count = omega (arith, inv.count);
      done = all.1;
      ended = subst (All P) (sym pushed) (all_snoc P c.loop-worker.takers.items w.taker inv.ended (all.0.0, all.0.1));
      found = c.in_ok-all.ensures.0;
      counts = λ n. c.in_ok-all.ensures.1 n ∙ taker_counts n c.loop-worker.takers.items c.add.new.self.items w.taker w.found.items c.loop-worker.all.items pushed all.0.3 (inv.counts n);
    }
