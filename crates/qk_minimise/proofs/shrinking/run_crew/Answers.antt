use Rattle.qk_minimise.proofs.Closing.{minimum_at_close}
use Rattle.qk_minimise.proofs.shrinking.run_crew.Goals as goal

pub close-requires-clause-walkers : goal.close-requires-clause-walkers
close-requires-clause-walkers g c κs within = λ k d low. (c.in_ok-list.ensures.1 k d low).0

pub returns : goal.returns
returns g c =
    let t = c.args.table in
    let told = c.close.ensures in
    minimum_at_close t.table.shared.table_id (g.F.Family.children t.family.now) (g.F.Family.failing t.family.now) t.family.now t.root.now t.limit c.in_ok-list.list.items c.close.result.path.items told.draws.0
    c.in_ok-list.ensures.1 told.prefixes told.whole told.draws.1 told.levels told.done c.close.result.limit_met told.leads told.limit.0 told.limit.1
