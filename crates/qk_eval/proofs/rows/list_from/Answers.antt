use Rattle.std.proofs.Common.{◌≡◌, ◌+◌, ◌<◌, max, length, sym, subst, arith}
use Rattle.std.proofs.lemmas.Grind.{common_steps}
use Rattle.qk_value.specs.Measures.{depth}
use Rattle.qk_eval.specs.declared.shared.Row.{Row}
use Rattle.qk_eval.proofs.RowLaws.{Keeps, keeps, level_below}
use Rattle.qk_eval.proofs.rows.list_from.Goals as goal

pub overflow_add-deref : goal.overflow_add-deref
overflow_add-deref c =
    let row = c.args.row.now.value in
    let within : c.args.at < length row.items.items = grind (arith, common_steps, c.requires.place, c.if-at-len.false, c.len.ensures, c.deref.ensures) in
    let below = level_below row.level c.args.at row.items.items row.rest c.requires.list c.requires.level within c.requires.small in
    grind (arith, common_steps, below, c.deref-2.ensures)

pub invariant_of-result : goal.invariant_of-result
invariant_of-result c =
    let row = c.args.row.now.value in
    let within : c.args.at < length row.items.items = grind (arith, common_steps, c.requires.place, c.if-at-len.false, c.len.ensures, c.deref.ensures) in
    let deep : c.max-depth.result ≡ max (row.level + 1) (depth row.rest) = grind (arith, common_steps, c.max-depth.ensures, c.depth.ensures, c.deref-2.ensures, c.deref-3.ensures) in
    subst (λ (r : Row). Keeps r c.args.at c.args.weight c.max-depth.result) (sym c.in_ok-clone.ensures.cases)
    (keeps row c.args.at c.args.weight c.max-depth.result c.requires.list c.requires.level within c.requires.weight c.requires.small deep)
