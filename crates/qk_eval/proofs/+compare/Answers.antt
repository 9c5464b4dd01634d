use Rattle.std.proofs.Common.{◌≡◌, ◌<◌, min, length, arith, sym, ◌∙◌}
use Rattle.std.proofs.lemmas.Grind.{common_steps}
use Rattle.qk_eval.proofs.ListLaws.{ends, item_falls}
use Rattle.qk_eval.proofs.+compare.Goals as goal

pub order::compare_all-returns : goal.order::compare_all-returns
order::compare_all-returns t c =
    let here : c.loop-i.i ≡ min (length c.args.xs.now) (length c.args.ys.now) = omega arith in
    c.cmp.ensures ∙ sym (ends _ _ _ here) ∙ c.loop-i.invariant

pub order::compare_all-compare-order-requires : goal.order::compare_all-compare-order-requires
order::compare_all-compare-order-requires t c =
    let within : c.loop-i.i < length c.args.xs.now = omega arith in
    let falls = item_falls c.args.xs.now c.loop-i.i c.index-xs-i.result within in
    (grind (arith, common_steps, falls, c.index-xs-i.is, c.decreases), tt)
