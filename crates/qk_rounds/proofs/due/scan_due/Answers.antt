use Rattle.qk_base.specs.Judged.{Judged}
use Rattle.qk_rounds.specs.Due.{due_outcome}
use Rattle.qk_rounds.specs.declared.due.Due.{Due}
use Rattle.qk_rounds.proofs.Dues.{answers_from-list}
use Rattle.qk_rounds.proofs.due.scan_due.Goals as goal

pub returns : goal.returns
returns g c =
    let f : Due → Judged = λ d. due_outcome (g.T.Trial.outcome c.args.trial.now) c.args.from d in
    rw (← answers_from-list f c.args.due.now (record { index = 0; size = 0 })) c.scan_paced.ensures
