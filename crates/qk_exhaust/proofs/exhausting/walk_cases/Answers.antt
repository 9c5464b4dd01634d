use Rattle.std.proofs.Common.{◌≡◌, ◌∙◌, ◌+◌, ◌-◌, ◌≤◌, take, drop, sym, ap, arith}
use Rattle.qk_exhaust.specs.Run.{walked}
use Rattle.qk_exhaust.proofs.WalkLaws.{stretch_ends, stretch_goes_on}
use Rattle.qk_exhaust.proofs.exhausting.walk_cases.Goals as goal

pub returns-then-is_some : goal.returns-then-is_some
returns-then-is_some g c =
    let vs = g.C.Cases.verdicts c.args.cases.now in
    let l = c.loop-first in
    let size = c.min-size.result in
    stretch_ends l.first l.discards size (c.args.looked - l.first) vs c.in_ok-walked.walked (omega arith) c.in_ok-walked.ensures.walked (sym c.is_some.ensures ∙ c.if-is_some.true) ∙ l.invariant.so_far

pub loop-first-preserved : goal.loop-first-preserved
loop-first-preserved g c =
    let vs = g.C.Cases.verdicts c.args.cases.now in
    let l = c.loop-first in
    let size = c.min-size.result in
    let w = c.in_ok-walked.walked in
    let goes : l.first + size ≤ c.args.looked = omega arith in
    let left : c.args.looked - (l.first + size) ≡ c.args.looked - l.first - size = omega arith in
    record {
      within = goes;
      fewer = c.in_ok-walked.ensures.fewer;
      so_far = ap (λ m. walked (l.first + size) w.discards (take m (drop (l.first + size) vs))) left
          ∙ stretch_goes_on l.first l.discards size (c.args.looked - l.first) vs w (omega (arith, goes)) (omega (arith, l.invariant.within, c.requires.looked)) c.in_ok-walked.ensures.walked
          (sym c.is_some.ensures ∙ c.if-is_some.false) ∙ l.invariant.so_far;
    }
