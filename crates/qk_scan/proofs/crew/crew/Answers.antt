use Rattle.std.proofs.Common.{rules, ◌≡◌, ◌<◌, length, sym, subst}
use Rattle.qk_scan.specs.declared.crew.Worker.{Worker}
use Rattle.qk_scan.specs.Crew.{HasWorked}
use Rattle.qk_scan.proofs.Eachs.{each_of_places}
use Rattle.qk_scan.proofs.crew.crew.Goals as goal

pub returns-clause-worked : goal.returns-clause-worked
returns-clause-worked g c =
    let b = c.args.board.now in let j = g.J.Jobs in let js = c.args.jobs.now in
    let P : Worker g.row.J-Answer.Denot → Type 0 = HasWorked b (j.answer_at js) (j.hits js) in
    let new = c.for_each_mut.new.s in
    let same : length new ≡ length c.args.workers.now = search rules in
    each_of_places P new (λ i d low. let k = (c.for_each_mut.ensures i d (subst (λ n. i < n) same low)).1 in subst P k.left k.call)
