use Rattle.std.proofs.Common.{rules, arith, ◌≡◌, ℕ, ◌<◌, ◌≤◌, length, false, sym, ap, ◌∙◌, subst}
use Rattle.qk_totals.specs.Totals.{times, drawn}
use Rattle.qk_path.specs.Points.{width, candidate}
use Rattle.qk_path.specs.Views.{with_miss, with_draw, with_done}
use Rattle.qk_path.specs.Walkers.{view_of}
use Rattle.qk_minimise.specs.Walk.{Tried}
use Rattle.qk_minimise.proofs.Turns.{done_turn, draw_turn, fresh_draw}
use Rattle.qk_minimise.proofs.walking.one_turn.Goals as goal

pub try_one-requires-clause-number : goal.try_one-requires-clause-number
try_one-requires-clause-number g c κs within =
    let t = c.args.table.now in let v = view_of c.args.walker.now in let children = g.F.Family.children t.family.now in let failing = g.F.Family.failing t.family.now in
    let n = c.claim-number.result in let u = view_of c.look.new.walker in let w = view_of c.claim-number.new.walker in
    let missed : u ≡ with_miss v = c.in_default.ensures.shows in
    let count : c.count-count.result ≡ width children t.root.now v.path = c.count-count.ensures.count ∙ (ap (λ f. length (g.F.Family.listed f c.args.spread.now)) c.family.ensures ∙ ap length c.requires.spread) in
    let drew : w ≡ with_draw (with_miss v) n = c.claim-number.ensures.draw c.if-count-number.false ∙ ap (λ a. with_draw a n) missed in
    let greater : (y : ℕ) → n ≤ y → drawn (length v.path) y v.draws ≡ 0 = subst (λ a. (y : ℕ) → n ≤ y → drawn (length a.path) y a.draws ≡ 0) missed c.claim-number.ensures.greater in (
      subst (λ a. 0 < drawn (length a.path) n a.draws) (sym drew) (fresh_draw children failing t.root.now v n c.requires.walks greater),
      omega (arith, c.count-count.ensures.bounded, c.if-count-number.false),
      subst (λ a. n < width children t.root.now a.path) (sym drew) (subst (λ m. n < m) count c.if-count-number.false),
    )

pub returns-then-count-number-clause-turned : goal.returns-then-count-number-clause-turned
returns-then-count-number-clause-turned g c =
    let t = c.args.table.now in let v = view_of c.args.walker.now in let children = g.F.Family.children t.family.now in let failing = g.F.Family.failing t.family.now in
    let n = c.claim-number.result in let u = view_of c.look.new.walker in let w = view_of c.claim-number.new.walker in
    let missed : u ≡ with_miss v = c.in_default.ensures.shows in
    let count : c.count-count.result ≡ width children t.root.now v.path = c.count-count.ensures.count ∙ (ap (λ f. length (g.F.Family.listed f c.args.spread.now)) c.family.ensures ∙ ap length c.requires.spread) in
    let made : w ≡ with_done (with_miss v) n = c.claim-number.ensures.done c.if-count-number.true ∙ ap (λ a. with_done a n) missed in
    let greater : (y : ℕ) → n ≤ y → drawn (length v.path) y v.draws ≡ 0 = subst (λ a. (y : ℕ) → n ≤ y → drawn (length a.path) y a.draws ≡ 0) missed c.claim-number.ensures.greater in
    let ready : times (length u.path) u.done ≡ 0 = search rules in
    done_turn children failing t.root.now v n c.requires.walks greater w made (subst (λ m. m ≤ n) count c.if-count-number.true) (subst (λ a. times (length a.path) a.done ≡ 0) missed ready)

pub returns-in-None-clause-turned : goal.returns-in-None-clause-turned
returns-in-None-clause-turned g c =
    let t = c.args.table.now in let v = view_of c.args.walker.now in let children = g.F.Family.children t.family.now in let failing = g.F.Family.failing t.family.now in
    let n = c.claim-number.result in let u = view_of c.look.new.walker in let w = view_of c.claim-number.new.walker in let after = view_of c.try_one.new.walker in
    let missed : u ≡ with_miss v = c.in_default.ensures.shows in
    let count : c.count-count.result ≡ width children t.root.now v.path = c.count-count.ensures.count ∙ (ap (λ f. length (g.F.Family.listed f c.args.spread.now)) c.family.ensures ∙ ap length c.requires.spread) in
    let drew : w ≡ with_draw (with_miss v) n = c.claim-number.ensures.draw c.if-count-number.false ∙ ap (λ a. with_draw a n) missed in
    let greater : (y : ℕ) → n ≤ y → drawn (length v.path) y v.draws ≡ 0 = subst (λ a. (y : ℕ) → n ≤ y → drawn (length a.path) y a.draws ≡ 0) missed c.claim-number.ensures.greater in
    let tried = subst (Tried children failing t.root.now n w after) c.in-None.is c.in_ok-step.ensures.tried in
    let passes = subst (λ a. failing (candidate children t.root.now a.path n) ≡ false) drew tried.1 in
    draw_turn children failing t.root.now v n c.requires.walks greater after (tried.0 ∙ drew) (subst (λ m. n < m) count c.if-count-number.false) passes
