use Rattle.std.proofs.Common.{rules, arith, ◌≡◌, ◌+◌, ◌*◌, ◌-◌, ◌<◌, ◌≤◌, length, false, sym, subst, ap, ◌∙◌, ◌++◌, [], ◌∷◌, ℕ}
use Rattle.qk_path.specs.Views.{Tidy, Marked, Ended, with_miss, with_step}
use Rattle.qk_path.proofs.Steps.{looks_at}
use Rattle.qk_path.proofs.Walking.{short_step, ended_step, tidy_step, marked_step}
use Rattle.qk_path.proofs.table.PathTable.look.Goals as goal

pub load-found-requires : goal.load-found-requires
load-found-requires g c =
    let k = c.args.self.now.table.shared.key in let t = c.args.self.now in let w = c.args.walker.now in
    let lv : c.len-level.result ≡ length w.seat.me.0.path = c.len-level.ensures ∙ ap length w.known in
    let alive : 0 < w.seat.me.0.parts = omega (arith, c.requires.walker.2) in
    let inside : 2 * c.len-level.result + 1 < t.table.shared.table_id.words = omega (arith, t.words.0, c.requires.level) in (
      search rules,
      inside,
      looks_at g.F.Family.children g.F.Family.failing k.family.now k.root.now k.walkers k.limit t.family.now t.root.now t.limit t.started.0 t.started.1 t.started.2 _ _ c.len-level.result w.seat.me lv alive c.requires.level,
    )

pub invariant_of-walker : goal.invariant_of-walker
invariant_of-walker g c =
    let t = c.args.self.now in let w = c.args.walker.now in let v = w.seat.me.0 in let told = c.load-found.ensures.2 in
    let is : c.load-found.new.seat.me.0 ≡ with_miss v = told.1 c.if-found-eq0.true in
    record { no_slot = told.0 ∙ w.no_slot; known = w.known ∙ sym (ap (λ u. u.path) is); short = subst (λ u. length u.path ≤ 1024) (sym is) w.short; tidy = subst Tidy (sym is) w.tidy; marked = subst (Marked w.done) (sym is) w.marked; ended = subst (Ended g.F.Family.children) (sym is) w.ended }

pub invariant_of-walker-else-found-eq0 : goal.invariant_of-walker-else-found-eq0
invariant_of-walker-else-found-eq0 g c =
    let t = c.args.self.now in let w = c.args.walker.now in let v = w.seat.me.0 in let told = c.load-found.ensures.2 in
    let j : ℕ = c.load-found.result - 1 in
    let is : c.load-found.new.seat.me.0 ≡ with_step v j = (told.2 j (omega (arith, c.if-found-eq0.false))).0 in
    record { no_slot = told.0 ∙ w.no_slot; known = c.gain.ensures.items ∙ (ap (λ l. l ++ j ∷ []) w.known ∙ sym (ap (λ u. u.path) is)); short = subst (λ u. length u.path ≤ 1024) (sym is) (short_step v j t.limit c.requires.level t.words.2); tidy = subst Tidy (sym is) (tidy_step v j w.tidy); marked = subst (Marked false) (sym is) (marked_step v j w.tidy); ended = subst (Ended g.F.Family.children) (sym is) (ended_step g.F.Family.children v j w.tidy w.ended) }
