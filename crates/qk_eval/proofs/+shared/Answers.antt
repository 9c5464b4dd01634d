use Rattle.std.proofs.Common.{◌≡◌, ◌<◌, length, arith, rules, ap, sym, subst, IsTrue}
use Rattle.qk_eval.specs.Falls.{most_parts_thrice, most_level_thrice, row_depth, weight_some}
use Rattle.qk_eval.specs.Parts.{is_list}
use Rattle.qk_eval.specs.Rows.{Level, row_from}
use Rattle.qk_eval.specs.declared.shared.Row.{Row}
use Rattle.qk_eval.proofs.+shared.Goals as goal

pub shared::Shared::drop-drop-node-requires : goal.shared::Shared::drop-drop-node-requires
shared::Shared::drop-drop-node-requires t c κs =
    (((grind (arith, most_parts_thrice c.in-Made.parts.value.items, c.decreases, c.loop-cell.invariant, c.self.view_is, c.in-Made.is), tt), tt), (search rules, search rules))

pub shared::Shared::drop-drop-requires-in-Row : goal.shared::Shared::drop-drop-requires-in-Row
shared::Shared::drop-drop-requires-in-Row t c κs =
    let row = c.in-Row.row.value in
    let at = c.in-Row.field-1 in
    let proper : (at < length row.items.items) × IsTrue (is_list row.rest) × Level row.level row.items.items = rw c.in-Row.is at c.self.invariant.4 in
    let level : Level row.level c.in-Some-into_inner.field-0.items.items = subst (λ (r : Row). Level row.level r.items.items) (sym c.in-Some-into_inner.ensures) proper.2 in
    let deep = row_depth row.level at row.items.items row.rest proper.1 proper.2 proper.0 in
    let some = weight_some (row_from at row.items.items row.rest) in
    (((grind (arith, most_level_thrice row.level c.in-Some-into_inner.field-0.items.items level, deep, some, c.decreases, c.loop-cell.invariant, c.self.view_is, c.in-Row.is), tt), tt), (search rules, search rules))
