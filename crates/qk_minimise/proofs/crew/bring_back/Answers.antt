use Rattle.std.proofs.Common.{rules, arith, ◌≡◌, ◌+◌, false, [], ◌∷◌, ◌++◌, length, length-append, All, sym, subst, ap, ◌∙◌}
use Rattle.qk_totals.proofs.Gather.{all_last, all_front, all_snoc, one_shorter}
use Rattle.qk_path.specs.declared.walker.Walker.{Walker}
use Rattle.qk_minimise.specs.declared.crew.Hired.{Hired}
use Rattle.qk_minimise.specs.Crew.{IsDone}
use Rattle.qk_minimise.proofs.crew.bring_back.Goals as goal

pub loop-hired-preserved : goal.loop-hired-preserved
loop-hired-preserved g c =
    let t = c.args.table.now in
    let W : Type 0 = Walker g.row.F.Denot g.row.F-Point.Denot g.row.F-Spread.Denot g.F.Family in
    let H : Type 0 = Hired g.row.F.Denot g.row.F-Point.Denot g.row.F-Spread.Denot g.F.Family in
    let P : W → Type 0 = IsDone t.table.shared.table_id (g.F.Family.children t.family.now) (g.F.Family.failing t.family.now) t.family.now t.root.now t.limit in
    let Q : H → Type 0 = λ h. h.failed ≡ false → P h.walker in
    let old = c.loop-hired.walkers.items in let rest = c.pop.new.self.items in let hired : H = c.in-Some.hired in let list = c.loop-hired.list.items in
    let items : old ≡ rest ++ hired ∷ [] = c.in-Some.ensures.items in
    let all : All Q (rest ++ hired ∷ []) = subst (All Q) items c.loop-hired.invariant.rest in
    let sound : hired.failed ≡ false = search rules in
    let added : c.add.new.self.items ≡ list ++ hired.walker ∷ [] = c.in_ok-add.ensures.ok in
    let longer : length c.add.new.self.items ≡ length list + 1 = ap length added ∙ length-append list (hired.walker ∷ []) in
    let shorter = one_shorter old rest hired items in
    let before = c.loop-hired.invariant.all in
    record {
      all = omega (arith, longer, shorter, before);
      rest = all_front Q rest hired all;
      done = subst (All P) (sym added) (all_snoc P list hired.walker c.loop-hired.invariant.done (all_last Q rest hired all sound));
    }
