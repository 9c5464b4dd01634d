use Rattle.std.proofs.Common.{◌≡◌, ◌∙◌, ◌+◌, ◌++◌, ◌∷◌, [], take, drop, sym, ap, subst, arith}
use Rattle.qk_value.specs.Data.{Datas, list, more, datas_of, listed_data}
use Rattle.qk_value.specs.Measures.{IsSmall}
use Rattle.qk_eval.specs.Parts.{items_of, joined}
use Rattle.qk_eval.proofs.ListLaws.{joined_push}
use Rattle.qk_shrink.proofs.PartLaws.{length_listed}
use Rattle.qk_shrink.proofs.SmallLaws.{small_items, listed_are}
use Rattle.qk_shrink.proofs.lists.with_item.Goals as goal

pub overflow_add-at : goal.overflow_add-at
overflow_add-at c =
    let small = small_items c.args.value.now c.is_small.ensures in
    omega (arith, c.requires.place, length_listed (items_of c.args.value.now), small.0)

pub joined_list-requires-clause-small : goal.joined_list-requires-clause-small
joined_list-requires-clause-small c =
    let xs = listed_data (items_of c.args.value.now) in
    let rest = drop (c.args.at + 1) xs in
    let put = c.in_ok-push.ensures.items ∙ ap (λ l. l ++ c.args.item ∷ []) c.in_ok-items.ensures in
    let same = (λ i. joined (datas_of (put i)) (listed_are (items_of c.in_ok-rest.rest) rest c.in_ok-rest.ensures.rest i)) ∙ joined_push (take c.args.at xs) c.args.item (datas_of rest) in
    subst (λ (ds : Datas). IsSmall (list ds)) (sym same) c.requires.small

pub returns : goal.returns
returns c =
    let xs = listed_data (items_of c.args.value.now) in
    let rest = drop (c.args.at + 1) xs in
    let put = c.in_ok-push.ensures.items ∙ ap (λ l. l ++ c.args.item ∷ []) c.in_ok-items.ensures in
    let same = (λ i. joined (datas_of (put i)) (listed_are (items_of c.in_ok-rest.rest) rest c.in_ok-rest.ensures.rest i)) ∙ joined_push (take c.args.at xs) c.args.item (datas_of rest) in
    c.in_ok-all.ensures ∙ ap list same
