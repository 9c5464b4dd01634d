use Rattle.std.proofs.Common.{rules, ◌≡◌, ◌+◌, false, ◌++◌, ◌∷◌, [], length, length-append, sym, subst, ap, ◌∙◌}
use Rattle.qk_board.specs.declared.seat.BoardSeat.{BoardSeat}
use Rattle.qk_board.specs.Seats.{view_of}
use Rattle.qk_scan.specs.declared.found.Found.{Found}
use Rattle.qk_scan.specs.Each.{Each}
use Rattle.qk_scan.specs.Crew.{IsDone}
use Rattle.qk_scan.specs.Slots.{IsSettled}
use Rattle.qk_scan.proofs.Eachs.{each_append, each_map, on_ok}
use Rattle.qk_scan.proofs.Reaching.{truth}
use Rattle.qk_scan.proofs.Settling.{settled_stays, settled_now}
use Rattle.qk_scan.proofs.scanning.settle_one.Goals as goal

pub put_all-requires-clause-truth : goal.put_all-requires-clause-truth
put_all-requires-clause-truth g c κs within =
    let j = g.J.Jobs in let js = c.args.jobs.now in let w = c.args.worker in let b = c.args.board.now in
    let T : Found g.row.J-Answer.Denot → Type 0 = λ f. f.answer ≡ j.answer_at js f.number in
    let sound : w.failed ≡ false = search rules in
    let done : IsDone b (j.answer_at js) (j.hits js) w = c.requires.done sound in
    let v = view_of w.seat in
    subst (Each T) (sym done.1.found_is) (truth (g.L.Layout.number_of b.layout) (j.answer_at js) (j.hits js) v.draws v.seen)

pub returns-clause-seats : goal.returns-clause-seats
returns-clause-seats g c =
    let j = g.J.Jobs in let js = c.args.jobs.now in let w = c.args.worker in let b = c.args.board.now in
    let old = c.args.slots.now.items in let new = c.put_all.new.slots.items in
    let P : BoardSeat → Type 0 = IsSettled b (j.answer_at js) (j.hits js) old in
    let Q : BoardSeat → Type 0 = IsSettled b (j.answer_at js) (j.hits js) new in
    let before = c.args.seats.now.items in let after = c.add.new.self.items in
    let sound : w.failed ≡ false = search rules in
    let mine : Q w.seat = settled_now b (j.answer_at js) (j.hits js) new w (c.requires.done sound) c.put_all.ensures.filled in
    let others : Each Q before = each_map P Q (settled_stays b (j.answer_at js) (j.hits js) old new c.put_all.ensures.len c.put_all.ensures.stays) before c.requires.seats in
    on_ok c.add.result (after ≡ before ++ w.seat ∷ []) ((length after ≡ length before + 1) × Each Q after)
    (λ pushed. (ap length pushed ∙ length-append before (w.seat ∷ []), subst (Each Q) (sym pushed) (each_append Q before (w.seat ∷ []) others (mine, tt))))
    c.add.ensures.ok
