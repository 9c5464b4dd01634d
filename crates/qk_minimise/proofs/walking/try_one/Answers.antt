use Rattle.std.proofs.Common.{◌≡◌, true, false, Some, slice_get, sym, refl, ap, ◌∙◌, subst}
use Rattle.qk_path.specs.Points.{candidate}
use Rattle.qk_path.specs.Walkers.{view_of}
use Rattle.qk_minimise.proofs.Turns.{is_candidate, candidate_owned}
use Rattle.qk_minimise.proofs.walking.try_one.Goals as goal

pub fails-requires : goal.fails-requires
fails-requires g c =
    let t = c.args.table.now in
    let path = (view_of c.args.walker.now).path in
    let children = g.F.Family.children t.family.now in
    let met = g.met.F.Family g.world.𝓛 g.world.𝓜 g.world.𝓡 ((λ s x. x), (λ x. x), (λ x. x), λ x. x) in
    let got = subst (λ f. slice_get (g.F.Family.listed f c.args.spread.now) c.args.number ≡ Some c.in_ok-point.point) c.family-family.ensures c.in_ok-point.ensures in
    let is : candidate children t.root.now path c.args.number ≡ c.in_ok-point.point = is_candidate children t.root.now path (g.F.Family.listed t.family.now c.args.spread.now) c.args.number c.in_ok-point.point c.requires.spread got in
    let owned = candidate_owned children (g.F.Family.failing t.family.now) (g.F.Family.owns t.family.now) (met.children_are_owned t.family.now) t.root.now path c.args.number c.requires.owned c.requires.leads c.requires.number.2 in
    subst (λ f. g.F.Family.owns f c.in_ok-point.point) (sym c.family-family.ensures) (subst (g.F.Family.owns t.family.now) is owned)

pub offer-requires-clause-fails : goal.offer-requires-clause-fails
offer-requires-clause-fails g c κs within =
    let t = c.args.table.now in
    let path = (view_of c.args.walker.now).path in
    let children = g.F.Family.children t.family.now in
    let got = subst (λ f. slice_get (g.F.Family.listed f c.args.spread.now) c.args.number ≡ Some c.in_ok-point.point) c.family-family.ensures c.in_ok-point.ensures in
    let is = is_candidate children t.root.now path (g.F.Family.listed t.family.now c.args.spread.now) c.args.number c.in_ok-point.point c.requires.spread got in
    let told : g.F.Family.failing t.family.now c.in_ok-point.point ≡ true = sym (ap (λ f. g.F.Family.failing f c.in_ok-point.point) c.family-family.ensures) ∙ (sym c.in_ok-fails.ensures ∙ c.if-branch.true) in
    (c.requires.number.2, ap (g.F.Family.failing t.family.now) is ∙ told)

pub returns-clause-tried : goal.returns-clause-tried
returns-clause-tried g c =
    let t = c.args.table.now in
    let path = (view_of c.args.walker.now).path in
    let children = g.F.Family.children t.family.now in
    let got = subst (λ f. slice_get (g.F.Family.listed f c.args.spread.now) c.args.number ≡ Some c.in_ok-point.point) c.family-family.ensures c.in_ok-point.ensures in
    let is = is_candidate children t.root.now path (g.F.Family.listed t.family.now c.args.spread.now) c.args.number c.in_ok-point.point c.requires.spread got in
    let told : g.F.Family.failing t.family.now c.in_ok-point.point ≡ false = sym (ap (λ f. g.F.Family.failing f c.in_ok-point.point) c.family-family.ensures) ∙ (sym c.in_ok-fails.ensures ∙ c.if-branch.false) in
    (refl, ap (g.F.Family.failing t.family.now) is ∙ told)
