use Rattle.std.proofs.Common.{◌∙◌}
use Rattle.qk_minimise.proofs.Turns.{step_owned, step_fails, step_leads, step_reached}
use Rattle.qk_minimise.proofs.shrinking.follow.Goals as goal

pub loop-i-preserved : goal.loop-i-preserved
loop-i-preserved g c =
    let family = c.args.family.now in
    let children = g.F.Family.children family in
    let failing = g.F.Family.failing family in
    let owns = g.F.Family.owns family in
    let met = g.met.F.Family g.world.𝓛 g.world.𝓜 g.world.𝓡 ((λ s x. x), (λ x. x), (λ x. x), λ x. x) in
    let law = met.children_are_owned family in
    let listed = g.F.Family.listed family c.in_ok-spread.spread in
    let inv = c.loop-i.invariant in
    let point = c.loop-i.point in let next = c.in_ok-point.point in let path = c.args.path.now in let i = c.loop-i.i in
    record {
      owned = step_owned children failing owns law point next listed path i c.loop-i-test.true inv.owned inv.leads c.in_ok-spread.ensures c.in_ok-point.ensures;
      fails = step_fails children failing owns law point next listed path i c.loop-i-test.true inv.owned inv.leads c.in_ok-spread.ensures c.in_ok-point.ensures;
      leads = step_leads children failing owns law point next listed path i c.loop-i-test.true inv.owned inv.leads c.in_ok-spread.ensures c.in_ok-point.ensures;
      so_far = step_reached children failing owns law point next listed path i c.loop-i-test.true inv.owned inv.leads c.in_ok-spread.ensures c.in_ok-point.ensures ∙ inv.so_far;
    }
