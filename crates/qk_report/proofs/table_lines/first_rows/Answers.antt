use Rattle.std.proofs.Common.{◌≡◌, sym, arith}
use Rattle.std.proofs.lemmas.List.{length-take, take_all}
use Rattle.qk_report.proofs.table_lines.first_rows.Goals as goal

pub returns-then-rows-le200 : goal.returns-then-rows-le200
returns-then-rows-le200 c = sym (take_all 200 c.args.rows.now c.if-rows-le200.true)

pub slice_bounds-result-end : goal.slice_bounds-result-end
slice_bounds-result-end c = omega (arith, length-take 200 c.args.rows.now)
