use Rattle.std.proofs.Common.{rules, ◌≡◌, ◌++◌, [], ◌∷◌, sym, subst}
use Rattle.qk_pool.specs.declared.worker.Found.{Found}
use Rattle.qk_pool.specs.Each.{Each}
use Rattle.qk_pool.specs.Workers.{IsBacked, weights_of}
use Rattle.qk_pool.proofs.Counts.{one_moved}
use Rattle.qk_pool.proofs.Eachs.{each_append, each_last, each_init}
use Rattle.qk_pool.proofs.slots.pour.Goals as goal

pub loop-next-preserved : goal.loop-next-preserved
loop-next-preserved g c =
    let B : Found g.row.T-Answer.Denot → Type 0 = IsBacked (g.T.Task.answers c.args.task.now) (weights_of c.args.takers.now.items) in
    let rest = c.pop.new.self.items in let next = c.in-Some.next in
    let items : c.loop-next.found.items ≡ rest ++ next ∷ [] = c.in-Some.ensures in
    let all : Each B (rest ++ next ∷ []) = subst (Each B) items c.loop-next.invariant.0 in
    let pushed : c.add.new.self.items ≡ c.loop-next.all.items ++ next ∷ [] = search rules in
    (each_init B rest next all, subst (Each B) (sym pushed) (each_append B c.loop-next.all.items (next ∷ []) c.loop-next.invariant.1 (each_last B rest next all, tt)), λ n. one_moved n c.loop-next.found.items rest c.loop-next.all.items c.add.new.self.items next _ items pushed (c.loop-next.invariant.2 n))
