use Rattle.std.proofs.Common.{◌≡◌, ◌∙◌, ◌+◌, ◌-◌, ◌≤◌, max, Ok, sym, ap, subst, arith}
use Rattle.std.proofs.lemmas.Bool.Decides.{nat_tests}
use Rattle.std.proofs.lemmas.Grind.{common_steps}
use Rattle.qk_value.specs.Data.{datas_of}
use Rattle.qk_value.specs.Measures.{weights, weight, depth}
use Rattle.qk_eval.specs.Falls.{weights_joined, weight_items}
use Rattle.qk_eval.specs.Parts.{items_of}
use Rattle.qk_eval.specs.Rows.{row_from}
use Rattle.qk_eval.specs.declared.shared.Row.{Row}
use Rattle.qk_eval.proofs.ListLaws.{small_ok}
use Rattle.qk_eval.proofs.RowLaws.{Keeps, keeps, row_small}
use Rattle.qk_eval.proofs.rows.in_row.Goals as goal

pub returns-then-weight-gt65536 : goal.returns-then-weight-gt65536
returns-then-weight-gt65536 c =
    let joined = weights_joined (datas_of c.args.items.items) (items_of c.args.rest) in
    let rest = weight_items c.args.rest c.requires.list in
    grind (arith, common_steps, nat_tests, joined, rest, c.weight_all.ensures, c.weight.ensures, c.deref.ensures.value, c.if-weight-gt65536.true)

pub invariant_of-result : goal.invariant_of-result
invariant_of-result c =
    let xs = c.args.items.items in
    let rest = c.args.rest in
    let all : c.weight_all.result - 1 + c.weight.result ≡ weights (datas_of xs) + weight rest = grind (arith, common_steps, c.weight_all.ensures, c.weight.ensures, c.deref.ensures.value, c.if-weight-gt65536.false) in
    let light : weights (datas_of xs) + weight rest ≤ 65536 = omega (arith, all, c.if-weight-gt65536.false) in
    let small = row_small c.args.level xs rest c.requires.list c.requires.level c.requires.some c.requires.depth c.is_small.ensures light in
    let weighs : c.weight_all.result - 1 + c.weight.result ≡ weight (row_from 0 xs rest) =
    omega (arith, all, weights_joined (datas_of xs) (items_of rest), weight_items rest c.requires.list) in
    let deep : c.max-depth.result ≡ max (c.args.level + 1) (depth rest) = grind (arith, common_steps, c.max-depth.ensures, c.depth.ensures) in
    subst (λ (r : Row). Keeps r 0 (c.weight_all.result - 1 + c.weight.result) c.max-depth.result) (sym c.in_ok-row.ensures.ok)
    (keeps record { items = c.args.items; level = c.args.level; rest = rest } 0 _ _ c.requires.list c.requires.level c.requires.some weighs small deep)

pub returns : goal.returns
returns c =
    let xs = c.args.items.items in
    let rest = c.args.rest in
    let light : weights (datas_of xs) + weight rest ≤ 65536 = grind (arith, common_steps, c.weight_all.ensures, c.weight.ensures, c.deref.ensures.value, c.if-weight-gt65536.false) in
    let small = row_small c.args.level xs rest c.requires.list c.requires.level c.requires.some c.requires.depth c.is_small.ensures light in
    ap (λ (r : Row). Ok (row_from 0 r.items.items r.rest)) c.in_ok-row.ensures.ok ∙ sym (small_ok (row_from 0 xs rest) small)
