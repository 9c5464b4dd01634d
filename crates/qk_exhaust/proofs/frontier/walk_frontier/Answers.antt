use Rattle.std.proofs.Common.{◌∙◌, arith}
use Rattle.qk_exhaust.proofs.WalkLaws.{scanned}
use Rattle.qk_exhaust.proofs.frontier.walk_frontier.Goals as goal

pub walk-walked-requires : goal.walk-walked-requires
walk-walked-requires g c =
    let vs = g.C.Cases.verdicts c.args.cases.now in
    let told = scanned c.args.before.0 c.args.before.1 c.args.count vs c.as_slice.result.now (omega (arith, c.requires.within)) (c.as_slice.ensures ∙ c.in_ok-answers.ensures) in
    (omega (arith, told.1, c.requires.within), c.requires.fewer)

pub returns-clause-walked : goal.returns-clause-walked
returns-clause-walked g c =
    let vs = g.C.Cases.verdicts c.args.cases.now in
    let told = scanned c.args.before.0 c.args.before.1 c.args.count vs c.as_slice.result.now (omega (arith, c.requires.within)) (c.as_slice.ensures ∙ c.in_ok-answers.ensures) in
    c.walk-walked.ensures.walked ∙ told.0

pub returns-clause-fewer : goal.returns-clause-fewer
returns-clause-fewer g c =
    let vs = g.C.Cases.verdicts c.args.cases.now in
    let told = scanned c.args.before.0 c.args.before.1 c.args.count vs c.as_slice.result.now (omega (arith, c.requires.within)) (c.as_slice.ensures ∙ c.in_ok-answers.ensures) in
    omega (arith, told.1, c.walk-walked.ensures.fewer)
