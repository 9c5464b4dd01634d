use Rattle.std.proofs.Common.{◌≡◌, ◌+◌, ◌-◌, ◌<◌, length, arith, IsTrue}
use Rattle.std.proofs.lemmas.Grind.{common_steps}
use Rattle.qk_eval.specs.Parts.{count, items_of, is_list}
use Rattle.qk_eval.specs.Rows.{Level}
use Rattle.qk_eval.proofs.ListLaws.{items_count}
use Rattle.qk_eval.proofs.RowLaws.{row_count}
use Rattle.qk_eval.proofs.shared.Shared.length.Goals as goal

pub overflow_add-passed : goal.overflow_add-passed
overflow_add-passed c = grind (arith, common_steps, items_count c.args.self.now, c.items.invariant, c.is_small.ensures)

pub overflow_cast-passed : goal.overflow_cast-passed
overflow_cast-passed c =
    let row = c.in-Row.row.value in
    let proper : (c.in-Row.at < length row.items.items) × IsTrue (is_list row.rest) × Level row.level row.items.items = rw c.in-Row.is at c.rest.invariant.4 in
    let counted = row_count c.in-Row.at row.items.items row.rest (omega (arith, proper.0)) in
    grind (arith, common_steps, counted, items_count c.args.self.now, c.items.invariant, c.is_small.ensures, c.rest.view_is, c.in-Row.is, c.len.ensures, c.deref-in-Row.ensures)

pub overflow_add-passed-in-Row : goal.overflow_add-passed-in-Row
overflow_add-passed-in-Row c =
    let row = c.in-Row.row.value in
    let proper : (c.in-Row.at < length row.items.items) × IsTrue (is_list row.rest) × Level row.level row.items.items = rw c.in-Row.is at c.rest.invariant.4 in
    let counted = row_count c.in-Row.at row.items.items row.rest (omega (arith, proper.0)) in
    grind (arith, common_steps, counted, items_count c.args.self.now, c.items.invariant, c.is_small.ensures, c.rest.view_is, c.in-Row.is, c.len.ensures, c.deref-in-Row.ensures)

pub items-preserved : goal.items-preserved
items-preserved c =
    let row = c.in-Row.row.value in
    let proper : (c.in-Row.at < length row.items.items) × IsTrue (is_list row.rest) × Level row.level row.items.items = rw c.in-Row.is at c.rest.invariant.4 in
    let counted = row_count c.in-Row.at row.items.items row.rest (omega (arith, proper.0)) in
    grind (arith, common_steps, counted, c.items.invariant, c.rest.view_is, c.in-Row.is, c.len.ensures, c.deref-in-Row.ensures, c.deref-in-Row-2.ensures)
