use Rattle.std.proofs.Common.{◌≡◌, ◌≤◌, ◌↔◌, true, false, All, length, sym, subst}
use Rattle.std.proofs.lemmas.Result.{IfOk-weaker}
use Rattle.qk_minimise.specs.Minimal.{Minimal}
use Rattle.qk_minimise.proofs.Descents.{fails_at_end, steps_at_end, least_at_end}
use Rattle.qk_minimise.proofs.descent.descend.Goals as goal

pub returns-clause-fails : goal.returns-clause-fails
returns-clause-fails g c =
    let children = g.F.Family.children c.args.family.now in
    let failing = g.F.Family.failing c.args.family.now in
    let End : Minimal _ → Type 0 = λ m. failing m.point ≡ true in
    IfOk-weaker c.go_down.result _ End (λ m is. subst End (sym is) (fails_at_end children failing c.args.limit c.args.point c.requires.fails)) c.go_down.ensures.descent

pub returns-clause-steps : goal.returns-clause-steps
returns-clause-steps g c =
    let children = g.F.Family.children c.args.family.now in
    let failing = g.F.Family.failing c.args.family.now in
    let End : Minimal _ → Type 0 = λ m. (length m.path ≤ c.args.limit) × ((m.limit_met ≡ true) ↔ (length m.path ≡ c.args.limit)) in
    IfOk-weaker c.go_down.result _ End (λ m is. subst End (sym is) (steps_at_end children failing c.args.limit c.args.point)) c.go_down.ensures.descent

pub returns-clause-least : goal.returns-clause-least
returns-clause-least g c =
    let children = g.F.Family.children c.args.family.now in
    let failing = g.F.Family.failing c.args.family.now in
    let End : Minimal _ → Type 0 = λ m. m.limit_met ≡ false → All (λ p. failing p ≡ false) (children m.point) in
    IfOk-weaker c.go_down.result _ End (λ m is. subst End (sym is) (least_at_end children failing c.args.limit c.args.point)) c.go_down.ensures.descent
