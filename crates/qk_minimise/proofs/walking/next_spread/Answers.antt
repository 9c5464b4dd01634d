use Rattle.std.proofs.Common.{◌≡◌, ◌<◌, ◌++◌, ◌∷◌, [], Some, length, slice_get, sym, ap, ◌∙◌, subst}
use Rattle.std.proofs.lemmas.Result.{IfOk-weaker}
use Rattle.qk_path.specs.Points.{reached, candidate, width, Leads}
use Rattle.qk_path.specs.Walkers.{view_of}
use Rattle.qk_minimise.proofs.Turns.{is_candidate, reached_next, last_within, leads_before, candidate_owned}
use Rattle.qk_minimise.proofs.walking.next_spread.Goals as goal

pub child-requires : goal.child-requires
child-requires g c =
    let t = c.args.table.now in let children = g.F.Family.children t.family.now in let failing = g.F.Family.failing t.family.now in
    let before = c.requires.step.0 in let k = c.args.step in
    let low : k < width children t.root.now before = last_within children failing t.root.now before k (subst (Leads children failing t.root.now) c.requires.step.1 c.requires.leads) in
    let e : length (g.F.Family.listed c.family-family.result.now c.args.spread.now) ≡ width children t.root.now before = ap (λ f. length (g.F.Family.listed f c.args.spread.now)) c.family-family.ensures ∙ ap length c.requires.step.2 in
    subst (λ m. k < m) (sym e) low

pub spread-requires : goal.spread-requires
spread-requires g c =
    let t = c.args.table.now in let children = g.F.Family.children t.family.now in let failing = g.F.Family.failing t.family.now in
    let before = c.requires.step.0 in let k = c.args.step in
    let leads : Leads children failing t.root.now (before ++ k ∷ []) = subst (Leads children failing t.root.now) c.requires.step.1 c.requires.leads in
    let met = g.met.F.Family g.world.𝓛 g.world.𝓜 g.world.𝓡 ((λ s x. x), (λ x. x), (λ x. x), λ x. x) in
    let got = subst (λ f. slice_get (g.F.Family.listed f c.args.spread.now) k ≡ Some c.in_ok-point.point) c.family-family.ensures c.in_ok-point.ensures in
    let is = is_candidate children t.root.now before (g.F.Family.listed t.family.now c.args.spread.now) k c.in_ok-point.point c.requires.step.2 got in
    let owned = candidate_owned children failing (g.F.Family.owns t.family.now) (met.children_are_owned t.family.now) t.root.now before k c.requires.owned (leads_before children failing t.root.now before k leads) (last_within children failing t.root.now before k leads) in
    subst (λ f. g.F.Family.owns f c.in_ok-point.point) (sym c.family-family.ensures) (subst (g.F.Family.owns t.family.now) is owned)

pub returns : goal.returns
returns g c =
    let t = c.args.table.now in let children = g.F.Family.children t.family.now in let path = (view_of c.args.walker.now).path in
    let before = c.requires.step.0 in let k = c.args.step in let point = c.in_ok-point.point in
    let got = subst (λ f. slice_get (g.F.Family.listed f c.args.spread.now) k ≡ Some point) c.family-family.ensures c.in_ok-point.ensures in
    let is : candidate children t.root.now before k ≡ point = is_candidate children t.root.now before (g.F.Family.listed t.family.now c.args.spread.now) k point c.requires.step.2 got in
    let next : point ≡ reached children t.root.now path = sym is ∙ (sym (reached_next children t.root.now before k) ∙ ap (reached children t.root.now) (sym c.requires.step.1)) in
    let Next : g.row.F-Spread.Denot → Type 0 = λ s. g.F.Family.listed t.family.now s ≡ children (reached children t.root.now path) in
    IfOk-weaker c.spread.result _ Next (λ s h. subst (λ f. g.F.Family.listed f s ≡ g.F.Family.children f point) c.family-family.ensures h ∙ ap children next) c.spread.ensures
