use Rattle.std.proofs.Common.{◌≡◌, ◌∙◌, sym, ap, true, false}
use Rattle.qk_property.specs.Points.{children_at, fails_at, IsSmallPoint}
use Rattle.qk_property.specs.PointLaws.{children_are_small}
use Rattle.qk_property.proofs.Stepping.{steps, passes, holds_at}
use Rattle.qk_property.proofs.replaying.step.Goals as goal

pub fails-requires : goal.fails-requires
fails-requires c =
    let f = c.args.family.now in
    holds_at IsSmallPoint _ (children_at f.core.now f.property.now f.fuel c.args.point.now) c.args.number c.in_ok-candidate.candidate c.in_ok-spread.ensures
    (children_are_small f.core.now f.property.now f.fuel c.args.point.now c.requires) c.in_ok-candidate.ensures

pub returns-then-branch-clause-small : goal.returns-then-branch-clause-small
returns-then-branch-clause-small c =
    let f = c.args.family.now in
    holds_at IsSmallPoint _ (children_at f.core.now f.property.now f.fuel c.args.point.now) c.args.number c.in_ok-candidate.candidate c.in_ok-spread.ensures
    (children_are_small f.core.now f.property.now f.fuel c.args.point.now c.requires) c.in_ok-candidate.ensures

pub returns-then-branch-clause-point : goal.returns-then-branch-clause-point
returns-then-branch-clause-point c =
    let f = c.args.family.now in
    sym (steps (children_at f.core.now f.property.now f.fuel) (fails_at f.core.now f.property.now f.fuel) c.args.point.now c.in_ok-candidate.candidate c.args.number _ c.in_ok-spread.ensures c.in_ok-candidate.ensures
    (sym c.in_ok-fails.ensures ∙ c.if-branch.true))

pub returns-clause-point : goal.returns-clause-point
returns-clause-point c =
    let f = c.args.family.now in
    sym (passes (children_at f.core.now f.property.now f.fuel) (fails_at f.core.now f.property.now f.fuel) c.args.point.now c.in_ok-candidate.candidate c.args.number _ c.in_ok-spread.ensures c.in_ok-candidate.ensures
    (sym c.in_ok-fails.ensures ∙ c.if-branch.false))
