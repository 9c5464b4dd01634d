use Rattle.std.proofs.Common.{arith, ◌≡◌, ◌+◌, Some}
use Rattle.std.proofs.lemmas.Grind.{common_steps}
use Rattle.std.proofs.lemmas.List.Sums.{sum_by_push}
use Rattle.qk_core.specs.ExprView.{view_expr}
use Rattle.qk_eval.specs.Meaning.{body_of}
use Rattle.qk_eval.specs.Work.{size, bodies_size, frames_size}
use Rattle.qk_eval.proofs.WorkLaws.{body_le, unit_pays}
use Rattle.qk_eval.proofs.UnitsLaws.{calling_zero, calling_some}
use Rattle.qk_eval.proofs.machine.enter.Goals as goal

pub returns-then-left-eq0-clause-same : goal.returns-then-left-eq0-clause-same
returns-then-left-eq0-clause-same c = rw (c.if-left-eq0.true, calling_zero)

pub returns-in-None-clause-same : goal.returns-in-None-clause-same
returns-in-None-clause-same c = grind (arith, common_steps, calling_some c.args.core.now.functions c.args.function c.args.args.items c.args.left.now c.if-left-eq0.false, c.body_of.ensures, c.in-None.ensures)

pub returns-in_ok-push-in-Some-clause-same : goal.returns-in_ok-push-in-Some-clause-same
returns-in_ok-push-in-Some-clause-same c = grind (arith, common_steps, calling_some c.args.core.now.functions c.args.function c.args.args.items c.args.left.now c.if-left-eq0.false, c.body_of.ensures, c.in-Some.ensures)

pub returns-in_ok-push-in-Some-clause-smaller : goal.returns-in_ok-push-in-Some-clause-smaller
returns-in_ok-push-in-Some-clause-smaller c =
    let functions = c.args.core.now.functions in
    let body = view_expr c.in-Some.body.now in
    let found : body_of functions c.args.function ≡ Some body = grind (arith, common_steps, c.body_of.ensures, c.in-Some.ensures) in
    let pays = unit_pays c.args.left.now (bodies_size functions) (size body) c.if-left-eq0.false (body_le functions c.args.function body found) in
    let pushed : frames_size c.push.new.self.items ≡ frames_size c.args.frames.now.items + 1 = grind (arith, common_steps, c.in_ok-push-in-Some.ensures.items, sum_by_push) in
    omega (arith, pays, pushed)
