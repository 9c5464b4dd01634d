use Rattle.std.proofs.Common.{◌∙◌, sym, arith}
use Rattle.std.proofs.lemmas.Bool.{eqb-true, eqb-false}
use Rattle.qk_report.proofs.PathReading.{path_goes_on, path_ends, no_path, no_more, no_room}
use Rattle.qk_report.proofs.token_parsing.read_numbers.Goals as goal

pub returns-then-is_empty-clause-ok : goal.returns-then-is_empty-clause-ok
returns-then-is_empty-clause-ok c = sym c.loop-rest.invariant.1 ∙ path_ends _ c.loop-rest.path.items c.loop-rest.rest.now (eqb-true _ _ (sym c.if-is_empty.ensures))

pub returns-in-None-clause-bad : goal.returns-in-None-clause-bad
returns-in-None-clause-bad c = λ _. no_path _ c.loop-rest.path.items c.args.bytes.now c.loop-rest.rest.now _
    (no_more c.loop-rest.path.items c.loop-rest.rest.now (omega (arith, c.loop-rest-test.true, c.len.ensures)) (omega (arith, eqb-false _ _ (sym c.if-is_empty.ensures))) c.in-None.ensures)
    c.loop-rest.invariant.1

pub loop-rest-preserved : goal.loop-rest-preserved
loop-rest-preserved c = path_goes_on c.loop-rest.path.items _ c.loop-rest.rest.now c.in-Some.after.now c.in-Some.number _ c.in_ok-add-in-Some.ensures.ok
    (omega (arith, c.loop-rest-test.true, c.len.ensures)) (omega (arith, eqb-false _ _ (sym c.if-is_empty.ensures))) c.in-Some.ensures c.loop-rest.invariant.1

pub returns-then-is_empty-2-clause-ok : goal.returns-then-is_empty-2-clause-ok
returns-then-is_empty-2-clause-ok c = sym c.loop-rest.invariant.1 ∙ path_ends _ c.loop-rest.path.items c.loop-rest.rest.now (eqb-true _ _ (sym c.if-is_empty-2.ensures))

pub returns-else-is_empty-2-clause-bad : goal.returns-else-is_empty-2-clause-bad
returns-else-is_empty-2-clause-bad c = λ _. no_path _ c.loop-rest.path.items c.args.bytes.now c.loop-rest.rest.now _
    (no_room c.loop-rest.path.items c.loop-rest.rest.now (omega (arith, c.loop-rest-test.false, c.len.ensures)) (omega (arith, eqb-false _ _ (sym c.if-is_empty-2.ensures))))
    c.loop-rest.invariant.1
