use Rattle.std.proofs.Common.{rules, arith, ◌≡◌, ◌+◌, [], ◌∷◌, ◌++◌, sym, subst, ap, ◌∙◌}
use Rattle.qk_board.specs.Seats.{view_of}
use Rattle.qk_scan.specs.Work.{top_of, AreDrawn}
use Rattle.qk_scan.proofs.Draws.{top_grows, draws_one, draws_none, claimed_drawn}
use Rattle.qk_scan.proofs.Eachs.{on_err}
use Rattle.qk_scan.proofs.working.turn.Goals as goal

pub returns-in_ok-answer_one-in-Number-clause-drew : goal.returns-in_ok-answer_one-in-Number-clause-drew
returns-in_ok-answer_one-in-Number-clause-drew g c _ =
    let t = c.in-Number.ensures.tells in let x = t.0 in let r = c.args.range in let v = view_of c.args.seat.now in
    let grows = top_grows r x v.draws t.4 in
    let same = c.answer_one.ensures.draws in
    let drew : (view_of c.answer_one.new.seat).draws ≡ v.draws ++ (r, x) ∷ [] = same.0 ∙ ap (λ u. u.draws) t.3 in
    let top : top_of r (view_of c.answer_one.new.seat).draws ≡ x + 1 = ap (top_of r) drew ∙ grows.1 in
    let low = grows.0 in let in_range = t.1 in
    (same.1 ∙ ap (λ u. u.dry) t.3, omega arith, omega arith)

pub returns-in_ok-answer_one-in-Number-clause-more : goal.returns-in_ok-answer_one-in-Number-clause-more
returns-in_ok-answer_one-in-Number-clause-more g c =
    let t = c.in-Number.ensures.tells in let r = c.args.range in let v = view_of c.args.seat.now in
    draws_one r t.0 v.draws (view_of c.answer_one.new.seat).draws (c.answer_one.ensures.draws.0 ∙ ap (λ u. u.draws) t.3)

pub returns-in-Dry-clause-more : goal.returns-in-Dry-clause-more
returns-in-Dry-clause-more g c = let v = view_of c.args.seat.now in
    draws_none c.args.range v.draws (view_of c.claim.new.seat).draws (ap (λ u. u.draws) c.in-Dry.ensures.tells)

pub returns-in_err-answer_one-in-Number-clause-failed : goal.returns-in_err-answer_one-in-Number-clause-failed
returns-in_err-answer_one-in-Number-clause-failed g c =
    let t = c.in-Number.ensures.tells in let r = c.args.range in let j = g.J.Jobs in let js = c.args.jobs.now in let number = g.L.Layout.number_of c.args.board.now.layout in
    let drawn = claimed_drawn number (j.answer_at js) (j.hits js) r t.0 (view_of c.args.seat.now) (view_of c.claim.new.seat) c.args.found.now.items c.requires.worked t.3 in
    let same : c.answer_one.new.found.items ≡ c.args.found.now.items = search rules in
    on_err c.from_residual.result (AreDrawn number (j.answer_at js) (view_of c.answer_one.new.seat).draws c.answer_one.new.found.items)
    (subst (AreDrawn number (j.answer_at js) (view_of c.answer_one.new.seat).draws) (sym same)
    (subst (λ l. AreDrawn number (j.answer_at js) l c.args.found.now.items) (sym c.answer_one.ensures.draws.0) drawn))
