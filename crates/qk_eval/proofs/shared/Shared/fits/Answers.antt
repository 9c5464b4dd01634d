use Rattle.std.proofs.Common.{◌≡◌, ◌+◌, ◌<◌, get_or, length, arith, IsTrue}
use Rattle.std.proofs.lemmas.Grind.{common_steps}
use Rattle.qk_value.specs.Data.{list, end}
use Rattle.qk_eval.specs.Parts.{is_list, items_of}
use Rattle.qk_eval.specs.Rows.{Level, row_from}
use Rattle.qk_eval.proofs.RowLaws.{row_next, fits_cons_alone}
use Rattle.qk_eval.proofs.shared.Shared.fits.Goals as goal

pub returns-in-Cons-matches-2 : goal.returns-in-Cons-matches-2
returns-in-Cons-matches-2 c =
    let row = c.in-Row.field-0.value in
    let proper : (c.in-Row.field-1 < length row.items.items) × IsTrue (is_list row.rest) × Level row.level row.items.items = rw c.in-Row.is at c.self.invariant.4 in
    let next = row_next c.in-Row.field-1 row.items.items row.rest (list end) proper.0 in
    grind (arith, common_steps, next, c.self.view_is, c.in-Row.is, c.in-Cons-matches-2.is)

pub returns-in_default-matches-3 : goal.returns-in_default-matches-3
returns-in_default-matches-3 c =
    let row = c.in-Row.field-0.value in
    let proper : (c.in-Row.field-1 < length row.items.items) × IsTrue (is_list row.rest) × Level row.level row.items.items = rw c.in-Row.is at c.self.invariant.4 in
    let next = row_next c.in-Row.field-1 row.items.items row.rest (list end) proper.0 in
    let other = fits_cons_alone c.args.pattern c.in_default-matches-3.not-Cons (get_or row.items.items c.in-Row.field-1 (list end)) (items_of (row_from (c.in-Row.field-1 + 1) row.items.items row.rest)) in
    grind (arith, common_steps, other, next, c.self.view_is, c.in-Row.is)
