use Rattle.std.proofs.Common.{rules, arith, ◌≡◌, ◌+◌, ◌*◌, ◌<◌, ◌≤◌, length, true, sym, subst, ap, ◌∙◌}
use Rattle.qk_path.specs.Views.{Tidy, Marked, Ended, with_draw, with_done}
use Rattle.qk_path.proofs.Steps.{claims_at}
use Rattle.qk_path.proofs.Walking.{ended_draw, ended_done, tidy_draw, tidy_done, marked_done, known_width}
use Rattle.qk_path.proofs.table.PathTable.claim.Goals as goal

pub fetch_add-number-requires : goal.fetch_add-number-requires
fetch_add-number-requires g c =
    let k = c.args.self.now.table.shared.key in let t = c.args.self.now in let w = c.args.walker.now in
    let lv : c.len-level.result ≡ length w.seat.me.0.path = c.len-level.ensures ∙ ap length w.known in
    let alive : 0 < w.seat.me.0.parts = omega (arith, c.requires.walker.2) in
    let inside : 2 * c.len-level.result + 2 < t.table.shared.table_id.words = omega (arith, t.words.0, c.requires.level) in (
      search rules,
      inside,
      claims_at g.F.Family.children g.F.Family.failing k.family.now k.root.now k.walkers k.limit t.family.now t.root.now t.limit t.started.0 t.started.1 t.started.2 _ _ c.len-level.result w.seat.me lv alive c.requires.level
          c.args.count c.requires.count.0 c.requires.count.1 t.started.4 c.requires.ready,
    )

pub invariant_of-walker : goal.invariant_of-walker
invariant_of-walker g c =
    let t = c.args.self.now in let w = c.args.walker.now in let v = w.seat.me.0 in let told = c.fetch_add-number.ensures.2 in
    let wide = known_width g.F.Family.children v t.family.now t.root.now c.requires.walker.1 in
    let is : c.fetch_add-number.new.seat.me.0 ≡ with_done v c.fetch_add-number.result = told.3 (omega (arith, c.requires.count.0, c.if-count-number.true)) in
    record { no_slot = told.0 ∙ w.no_slot; known = w.known ∙ sym (ap (λ u. u.path) is); short = subst (λ u. length u.path ≤ 1024) (sym is) w.short; tidy = subst Tidy (sym is) (tidy_done v c.fetch_add-number.result w.tidy); marked = subst (Marked true) (sym is) (marked_done v c.fetch_add-number.result); ended = subst (Ended g.F.Family.children) (sym is) (ended_done g.F.Family.children v c.fetch_add-number.result (omega (arith, wide, c.requires.count.0, c.if-count-number.true)) w.ended) }

pub invariant_of-walker-else-count-number : goal.invariant_of-walker-else-count-number
invariant_of-walker-else-count-number g c =
    let t = c.args.self.now in let w = c.args.walker.now in let v = w.seat.me.0 in let told = c.fetch_add-number.ensures.2 in
    let wide = known_width g.F.Family.children v t.family.now t.root.now c.requires.walker.1 in
    let is : c.fetch_add-number.new.seat.me.0 ≡ with_draw v c.fetch_add-number.result = told.2 (omega (arith, c.requires.count.0, c.if-count-number.false)) in
    record { no_slot = told.0 ∙ w.no_slot; known = w.known ∙ sym (ap (λ u. u.path) is); short = subst (λ u. length u.path ≤ 1024) (sym is) w.short; tidy = subst Tidy (sym is) (tidy_draw v c.fetch_add-number.result w.tidy); marked = subst (Marked w.done) (sym is) w.marked; ended = subst (Ended g.F.Family.children) (sym is) (ended_draw g.F.Family.children v c.fetch_add-number.result (omega (arith, wide, c.requires.count.0, c.if-count-number.false)) w.ended) }
