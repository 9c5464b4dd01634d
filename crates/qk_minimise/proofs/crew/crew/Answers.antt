use Rattle.std.proofs.Common.{rules, ◌≡◌, ◌<◌, false, length, sym, subst}
use Rattle.qk_minimise.specs.declared.crew.Hired.{Hired}
use Rattle.qk_minimise.specs.Crew.{IsDone}
use Rattle.qk_minimise.proofs.crew.crew.Goals as goal

pub returns-clause-walked : goal.returns-clause-walked
returns-clause-walked g c =
    let t = c.args.table.now in
    let H : Type 0 = Hired g.row.F.Denot g.row.F-Point.Denot g.row.F-Spread.Denot g.F.Family in
    let Q : H → Type 0 = λ h. h.failed ≡ false → IsDone t.table.shared.table_id (g.F.Family.children t.family.now) (g.F.Family.failing t.family.now) t.family.now t.root.now t.limit h.walker in
    let same : length c.for_each_mut.new.s ≡ length c.args.walkers.now = search rules in
    λ i d low. let k = (c.for_each_mut.ensures i d (subst (λ n. i < n) same low)).1 in subst Q k.left k.call
