use Rattle.std.proofs.Common.{Some, None, sym, ◌∙◌}
use Rattle.qk_minimise.proofs.Frontiers.{scanned}
use Rattle.qk_minimise.proofs.frontier.first_within.Goals as goal

pub returns-in-None : goal.returns-in-None
returns-in-None g c =
    scanned (g.F.Family.failing c.args.family.now) (g.F.Family.listed c.args.family.now c.args.spread.now) c.args.first c.args.count c.as_slice.result.now None
    c.requires.within (c.as_slice.ensures ∙ c.in_ok-answers.ensures) (sym c.in-None.is ∙ c.first_hit.ensures)

pub returns : goal.returns
returns g c =
    scanned (g.F.Family.failing c.args.family.now) (g.F.Family.listed c.args.family.now c.args.spread.now) c.args.first c.args.count c.as_slice.result.now (Some c.in-Some.place)
    c.requires.within (c.as_slice.ensures ∙ c.in_ok-answers.ensures) (sym c.in-Some.is ∙ c.first_hit.ensures)
