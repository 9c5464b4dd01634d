use Rattle.std.proofs.Common.{◌+◌, add-one, ◌∙◌, ◌*◌, length, sym, ap, arith}
use Rattle.qk_value.specs.View.{view_type}
use Rattle.qk_series.specs.Members.{saturated}
use Rattle.qk_series.specs.Series.{series}
use Rattle.qk_value.specs.Types.{list_type}
use Rattle.qk_series.proofs.CountLaws.{count_numbers, count_pairs, count_more_lists}
use Rattle.qk_series.proofs.FormLaws.{int_form, pair_form}
use Rattle.qk_series.proofs.counts.Counts.+count.Goals as goal

pub count_at-returns-in-Int : goal.count_at-returns-in-Int
count_at-returns-in-Int t c =
    let kinds = c.args.self.now.kinds.now in
    let d = c.args.depth in
    count_numbers kinds d (omega (arith, c.requires, c.args.self.now.few)) ∙ ap (λ ty. saturated (length (series kinds d ty))) (sym (int_form c.args.ty.now c.in-Int.is))

pub count_at-returns-in-Pair : goal.count_at-returns-in-Pair
count_at-returns-in-Pair t c =
    let kinds = c.args.self.now.kinds.now in
    let d = c.args.depth in
    c.product.ensures
    ∙ (λ i. saturated (c.count_at.ensures i * c.count_at-in-Pair.ensures i))
    ∙ (λ i. saturated (saturated (length (series kinds d (view_type (c.deref-in-Pair.ensures i)))) * saturated (length (series kinds d (view_type (c.deref-in-Pair-2.ensures i))))))
    ∙ count_pairs kinds d (view_type c.in-Pair.first.value) (view_type c.in-Pair.second.value)
    ∙ ap (λ ty. saturated (length (series kinds d ty))) (sym (pair_form c.args.ty.now c.in-Pair.first c.in-Pair.second c.in-Pair.is))

pub count_list-loop-lower-preserved : goal.count_list-loop-lower-preserved
count_list-loop-lower-preserved t c =
    let kinds = c.args.self.now.kinds.now in
    let ty = view_type c.args.item.now in
    let d = c.loop-lower.lower in
    c.sum-count.ensures ∙ ap (λ n. saturated (1 + n)) c.product.ensures ∙ ap (λ n. saturated (1 + saturated (n * c.loop-lower.count))) c.count_at.ensures
    ∙ count_more_lists kinds d c.loop-lower.count ty c.loop-lower.invariant ∙ ap (λ d. saturated (length (series kinds d (list_type ty)))) (sym (add-one d))
