use mir.Syntax.{w64}
use mir.Val.{SFits}
use Rattle.std.proofs.Common.{◌∙◌, ◌+◌, length, drop, sym, ap, arith, rules}
use Rattle.std.proofs.lemmas.Int.{to_z-of_z}
use Rattle.qk_value.specs.View.{view_type, view_value, view_values}
use Rattle.qk_shrink.specs.Candidates.{value_candidates, items_in_place}
use Rattle.qk_shrink.specs.Numbers.{number_candidates}
use Rattle.qk_shrink.proofs.CountLaws.{length_weights, length_drop, count_int, count_list, count_pair}
use Rattle.qk_shrink.proofs.FormLaws.{int_form, pair_form}
use Rattle.qk_shrink.proofs.counting.+count.Goals as goal

pub count-returns-in-Int-Int-clause-count : goal.count-returns-in-Int-Int-clause-count
count-returns-in-Int-Int-clause-count t c =
    let n = c.in-Int-Int.n in
    let fits : SFits w64 n = search rules in
    c.count_number.ensures.count
    ∙ ap (λ n. length (number_candidates n)) (to_z-of_z w64 n fits)
    ∙ sym (ap length (int_form c.args.kinds.now c.args.ty.now c.args.value.now n c.in-Int-Int.is-0 c.in-Int-Int.is-1) ∙ count_int n)

pub count-returns-in-Pair-Pair-clause-count : goal.count-returns-in-Pair-Pair-clause-count
count-returns-in-Pair-Pair-clause-count t c =
    let kinds = c.args.kinds.now in
    let p = c.in-Pair-Pair in
    (λ i. c.count.ensures.count i + c.count-in-Pair-Pair.ensures.count i)
    ∙ (λ i. length (value_candidates kinds (view_type (c.deref-in-Pair-Pair-2.ensures i)) (view_value (c.deref-in-Pair-Pair.ensures i)))
    + length (value_candidates kinds (view_type (c.deref-in-Pair-Pair-4.ensures i)) (view_value (c.deref-in-Pair-Pair-3.ensures i))))
    ∙ sym (ap length (pair_form kinds c.args.ty.now c.args.value.now p.first p.second p.a p.b p.is-0 p.is-1)
    ∙ count_pair (view_value p.a.value) (view_value p.b.value) (value_candidates kinds (view_type p.first.value) (view_value p.a.value)) (value_candidates kinds (view_type p.second.value) (view_value p.b.value)))

pub count_parts-returns-clause-bounded : goal.count_parts-returns-clause-bounded
count_parts-returns-clause-bounded t c =
    omega (arith, c.loop-i.invariant.bounded, length_weights (drop c.loop-i.i c.args.parts.now), length_drop c.loop-i.i c.args.parts.now)

pub count_list-count_blocks-requires : goal.count_list-count_blocks-requires
count_list-count_blocks-requires t c = omega (arith, c.requires, length_weights c.args.items.now)

pub count_list-returns-clause-count : goal.count_list-returns-clause-count
count_list-returns-clause-count t c =
    let others = items_in_place c.args.kinds.now (view_type c.args.ty.now) (view_values c.args.items.now) in
    (λ i. c.count_blocks.ensures.count i + c.count_items.ensures.count i) ∙ sym (count_list c.args.items.now others)
