use Rattle.std.proofs.Common.{rules, ◌≡◌, true, false, [], ◌∷◌, ◌++◌, sym, subst, ap, ◌∙◌}
use Rattle.qk_board.specs.declared.view.BoardView.{BoardView}
use Rattle.qk_board.specs.Views.{with_seen, with_lowered}
use Rattle.qk_board.specs.Seats.{view_of}
use Rattle.qk_scan.specs.declared.found.Found.{Found}
use Rattle.qk_scan.specs.Work.{Worked, answer_to}
use Rattle.qk_scan.proofs.Draws.{skipped, missed, hit}
use Rattle.qk_scan.proofs.working.answer_one.Goals as goal

pub returns-then-bound-number-clause-worked : goal.returns-then-bound-number-clause-worked
returns-then-bound-number-clause-worked g c =
    let j = g.J.Jobs in let js = c.args.jobs.now in let number = g.L.Layout.number_of c.args.board.now.layout in let F = c.args.found.now.items in
    subst (λ (v : BoardView). Worked number (j.answer_at js) (j.hits js) v F) (sym c.bound-bound.ensures.view)
    (skipped number (j.answer_at js) (j.hits js) c.args.number (view_of c.args.seat.now) F c.requires.pending c.bound-bound.result c.if-bound-number.true)

pub returns-then-not-hit-clause-worked : goal.returns-then-not-hit-clause-worked
returns-then-not-hit-clause-worked g c =
    let j = g.J.Jobs in let js = c.args.jobs.now in let number = g.L.Layout.number_of c.args.board.now.layout in let n = c.args.number in
    let F = c.args.found.now.items in
    let one : Found g.row.J-Answer.Denot = record { number = n; answer = c.in_ok-answer.answer } in
    let pushed : c.add.new.self.items ≡ F ++ one ∷ [] = search rules in
    let told : c.in_ok-answer.answer ≡ j.answer_at js n = c.in_ok-answer.ensures in
    let same : one ≡ answer_to (j.answer_at js) n = ap (λ a. record { number = n; answer = a }) told in
    let more : c.add.new.self.items ≡ F ++ answer_to (j.answer_at js) n ∷ [] = pushed ∙ ap (λ f. F ++ f ∷ []) same in
    let miss : j.hits js (j.answer_at js n) ≡ false = sym (ap (j.hits js) told) ∙ search rules in
    let w = missed number (j.answer_at js) (j.hits js) n (view_of c.args.seat.now) F c.requires.pending c.bound-bound.result c.if-bound-number.false miss in
    subst (λ (v : BoardView). Worked number (j.answer_at js) (j.hits js) v c.add.new.self.items) (sym c.bound-bound.ensures.view)
    (subst (λ l. Worked number (j.answer_at js) (j.hits js) (with_seen (view_of c.args.seat.now) c.bound-bound.result) l) (sym more) w)

pub returns-clause-worked : goal.returns-clause-worked
returns-clause-worked g c =
    let j = g.J.Jobs in let js = c.args.jobs.now in let number = g.L.Layout.number_of c.args.board.now.layout in let n = c.args.number in
    let F = c.args.found.now.items in
    let one : Found g.row.J-Answer.Denot = record { number = n; answer = c.in_ok-answer.answer } in
    let pushed : c.add.new.self.items ≡ F ++ one ∷ [] = search rules in
    let told : c.in_ok-answer.answer ≡ j.answer_at js n = c.in_ok-answer.ensures in
    let same : one ≡ answer_to (j.answer_at js) n = ap (λ a. record { number = n; answer = a }) told in
    let more : c.add.new.self.items ≡ F ++ answer_to (j.answer_at js) n ∷ [] = pushed ∙ ap (λ f. F ++ f ∷ []) same in
    let hits : j.hits js (j.answer_at js n) ≡ true = sym (ap (j.hits js) told) ∙ search rules in
    let w = hit number (j.answer_at js) (j.hits js) n (view_of c.args.seat.now) F c.requires.pending c.bound-bound.result c.if-bound-number.false hits in
    let view : view_of c.lower.new.seat ≡ with_lowered (with_seen (view_of c.args.seat.now) c.bound-bound.result) n = c.lower.ensures.view ∙ ap (λ (v : BoardView). with_lowered v n) c.bound-bound.ensures.view in
    subst (λ (v : BoardView). Worked number (j.answer_at js) (j.hits js) v c.add.new.self.items) (sym view)
    (subst (λ l. Worked number (j.answer_at js) (j.hits js) (with_lowered (with_seen (view_of c.args.seat.now) c.bound-bound.result) n) l) (sym more) w)
