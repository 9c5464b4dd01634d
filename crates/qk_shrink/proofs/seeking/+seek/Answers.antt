use Rattle.std.proofs.Common.{◌∙◌, ◌+◌, ◌<◌, ◌++◌, length, take, drop, map, refl, sym, ap, subst, arith, Vec}
use Rattle.std.specs.declared.alloc.Global.{Global}
use Rattle.std.proofs.lemmas.Grind.{common_steps}
use Rattle.qk_value.specs.Data.{Data, Datas, list, pair, made, more, datas_of, listed_data}
use Rattle.qk_value.specs.Measures.{IsSmall}
use Rattle.qk_value.specs.Kinds.{maker_of}
use Rattle.qk_value.specs.View.{view_type}
use Rattle.qk_eval.specs.Forms.{to_come}
use Rattle.qk_eval.specs.Parts.{items_of, joined}
use Rattle.qk_eval.specs.Sizes.{datas_size}
use Rattle.qk_eval.proofs.ListLaws.{item_falls}
use Rattle.qk_shrink.specs.Candidates.{fields_of, own_parts, value_candidates, items_in_place, parts_in_place}
use Rattle.qk_shrink.specs.Sought.{sought, map_sought}
use Rattle.qk_shrink.specs.declared.sought.Sought.{Sought}
use Rattle.qk_shrink.specs.declared.sought.Sought.TheVariants.{Here, Past}
use Rattle.qk_shrink.proofs.FormLaws.{pair_data}
use Rattle.qk_shrink.proofs.PartLaws.{after_front, items_fall, step_behind, step_others, item_here, item_past, within, length_listed, place_here, place_past, parts_next}
use Rattle.qk_shrink.proofs.SeekLaws.{pair_first, pair_second, list_first, list_second, made_second}
use Rattle.qk_shrink.proofs.SmallLaws.{small_items, small_item, small_first, small_second, small_parts}
use Rattle.qk_shrink.proofs.SoughtLaws.{in_first}
use Rattle.qk_shrink.proofs.seeking.+seek.Goals as goal

pub seek-returns-in_ok-pair-in-Pair-Pair : goal.seek-returns-in_ok-pair-in-Pair-Pair
seek-returns-in_ok-pair-in-Pair-Pair t c =
    let kinds = c.args.kinds.now in
    let k = c.args.k in
    let p = c.in-Pair-Pair in
    let a = p.a.now in
    let b = p.b.now in
    c.in_ok-pair-in-Pair-Pair.ensures
    ∙ (λ i. sought (map (λ c. pair c b) (value_candidates kinds (view_type (c.deref-in-Pair-Pair.ensures i)) a) ++ map (pair a) (value_candidates kinds (view_type (c.deref-in-Pair-Pair-2.ensures i)) b)) k)
    ∙ ap (λ l. sought l k) (sym (pair_data kinds c.args.ty.now c.args.value.now p.first p.second a b p.is-0 (sym p.ensures)))

pub seek_items-items-init : goal.seek_items-items-init
seek_items-items-init t c = record { falls = items_fall c.args.value.now; behind = refl; whole = refl }

pub seek_items-with_item-requires-clause-place : goal.seek_items-with_item-requires-clause-place
seek_items-with_item-requires-clause-place t c =
    let at = c.items.invariant.behind ∙ ap listed_data (sym c.in-Some.ensures) in
    within (listed_data (items_of c.args.value.now)) c.items.at c.in-Some.first.now (listed_data (to_come c.in-Some.others)) at

pub seek_items-with_item-requires-clause-small : goal.seek_items-with_item-requires-clause-small
seek_items-with_item-requires-clause-small t c =
    let value = c.args.value.now in
    let xs = listed_data (items_of value) in
    let at = c.items.invariant.behind ∙ ap listed_data (sym c.in-Some.ensures) in
    let others = step_others xs c.items.at c.in-Some.first.now (to_come c.in-Some.others) at in
    subst (λ (ds : Datas). IsSmall (list (joined (datas_of (take c.items.at xs)) (more c.in-Here.item ds)))) (sym others)
    (small_item c.args.kinds.now (view_type c.args.ty.now) value c.items.at c.in-Some.first.now (to_come c.in-Some.others) c.items.left c.in-Here.item c.is_small.ensures at
    (sym c.in-Here.is ∙ c.in_ok-item-in-Some.ensures))

pub seek_items-returns-in-Here : goal.seek_items-returns-in-Here
seek_items-returns-in-Here t c =
    let kinds = c.args.kinds.now in
    let ty = view_type c.args.ty.now in
    let xs = listed_data (items_of c.args.value.now) in
    let at = c.items.invariant.behind ∙ ap listed_data (sym c.in-Some.ensures) in
    let others = step_others xs c.items.at c.in-Some.first.now (to_come c.in-Some.others) at in
    ap Here (c.in_ok-replaced-in-Here.ensures ∙ ap (λ ds. after_front c.items.at xs (more c.in-Here.item ds)) others)
    ∙ item_here kinds ty xs c.items.at c.in-Some.first.now (to_come c.in-Some.others) c.items.left c.in-Here.item (sym c.in-Here.is ∙ c.in_ok-item-in-Some.ensures)
    ∙ ap (λ ds. map_sought (after_front c.items.at xs) (sought (items_in_place kinds ty ds) c.items.left)) c.in-Some.ensures
    ∙ c.items.invariant.whole

pub seek_items-overflow_add-at : goal.seek_items-overflow_add-at
seek_items-overflow_add-at t c =
    let value = c.args.value.now in
    let at = c.items.invariant.behind ∙ ap listed_data (sym c.in-Some.ensures) in
    let small = small_items value c.is_small.ensures in
    omega (arith, within (listed_data (items_of value)) c.items.at c.in-Some.first.now (listed_data (to_come c.in-Some.others)) at, length_listed (items_of value), small.0)

pub seek_items-items-preserved : goal.seek_items-items-preserved
seek_items-items-preserved t c =
    let kinds = c.args.kinds.now in
    let ty = view_type c.args.ty.now in
    let xs = listed_data (items_of c.args.value.now) in
    let first = c.in-Some.first.now in
    let others = to_come c.in-Some.others in
    let at = c.items.invariant.behind ∙ ap listed_data (sym c.in-Some.ensures) in
    record {
      falls = omega (arith, ap datas_size c.in-Some.ensures, c.items.invariant.falls);
      behind = step_behind xs c.items.at first (listed_data others) at;
      whole = item_past kinds ty xs c.items.at first others c.items.left c.in-Past.past at (sym c.in-Past.is ∙ c.in_ok-item-in-Some.ensures)
          ∙ ap (λ ds. map_sought (after_front c.items.at xs) (sought (items_in_place kinds ty ds) c.items.left)) c.in-Some.ensures
          ∙ c.items.invariant.whole;
    }

pub seek_pair-small_pair-requires : goal.seek_pair-small_pair-requires
seek_pair-small_pair-requires t c =
    let b = c.args.b.now in
    subst (λ (d : Data). IsSmall (pair c.in-Here.c d)) (sym c.in_ok-share-in-Here.ensures)
    (small_first c.args.kinds.now (view_type c.args.first.now) c.args.a.now b c.args.k c.in-Here.c c.requires (sym c.in-Here.is ∙ c.in_ok-c.ensures))

pub seek_parts-seek-requires : goal.seek_parts-seek-requires
seek_parts-seek-requires t c =
    let parts = c.args.parts.now in
    let inside : c.loop-i.i < length parts = omega (arith, c.min-shared.ensures, c.loop-i-test.true) in
    let falls = item_falls parts c.loop-i.i c.index-parts-i.result inside in
    (grind (arith, common_steps, falls, c.index-parts-i.is, c.decreases), tt)

pub seek_parts-returns-in-Here : goal.seek_parts-returns-in-Here
seek_parts-returns-in-Here t c =
    let kinds = c.args.kinds.now in
    let types = c.args.types.now in
    let parts = c.args.parts.now in
    let i = c.loop-i.i in
    let ty = c.index-types-i.result in
    let part = c.index-parts-i.result in
    place_here parts c.in_ok-parts-in-Here.parts.items i part c.in-Here.part (value_candidates kinds (view_type ty) part)
    (parts_in_place kinds (map view_type (drop (i + 1) types)) (datas_of (drop (i + 1) parts)))
    (parts_in_place kinds (map view_type (drop i types)) (datas_of (drop i parts))) c.loop-i.left c.in_ok-part.field-0 c.in_ok-parts-in-Here.ensures c.in-Here.is c.in_ok-part.ensures
    (parts_next kinds types parts i ty part (omega (arith, c.min-shared.ensures, c.loop-i-test.true)) (omega (arith, c.min-shared.ensures, c.loop-i-test.true)) c.index-types-i.is c.index-parts-i.is)
    ∙ c.loop-i.invariant

pub seek_parts-loop-i-preserved : goal.seek_parts-loop-i-preserved
seek_parts-loop-i-preserved t c =
    let kinds = c.args.kinds.now in
    let types = c.args.types.now in
    let parts = c.args.parts.now in
    let i = c.loop-i.i in
    let ty = c.index-types-i.result in
    let part = c.index-parts-i.result in
    place_past parts i part (value_candidates kinds (view_type ty) part)
    (parts_in_place kinds (map view_type (drop (i + 1) types)) (datas_of (drop (i + 1) parts)))
    (parts_in_place kinds (map view_type (drop i types)) (datas_of (drop i parts))) c.loop-i.left c.in-Past.rest c.in_ok-part.field-0
    (omega (arith, c.min-shared.ensures, c.loop-i-test.true)) c.index-parts-i.is c.in-Past.is c.in_ok-part.ensures
    (parts_next kinds types parts i ty part (omega (arith, c.min-shared.ensures, c.loop-i-test.true)) (omega (arith, c.min-shared.ensures, c.loop-i-test.true)) c.index-types-i.is c.index-parts-i.is)
    ∙ c.loop-i.invariant

pub seek_pair-small_pair-requires-in-Here-2 : goal.seek_pair-small_pair-requires-in-Here-2
seek_pair-small_pair-requires-in-Here-2 t c =
    let a = c.args.a.now in
    subst (λ (d : Data). IsSmall (pair d c.in-Here-2.c)) (sym c.in_ok-share-in-Here-2.ensures)
    (small_second c.args.kinds.now (view_type c.args.second.now) a c.args.b.now c.in-Past.left c.in-Here-2.c c.requires (sym c.in-Here-2.is ∙ c.in_ok-c-in-Past.ensures))

pub seek_pair-returns-in_ok-pair-in-Here : goal.seek_pair-returns-in_ok-pair-in-Here
seek_pair-returns-in_ok-pair-in-Here t c =
    let kinds = c.args.kinds.now in
    let a = c.args.a.now in
    let b = c.args.b.now in
    ap Here (c.in_ok-pair-in-Here.ensures ∙ ap (pair c.in-Here.c) c.in_ok-share-in-Here.ensures)
    ∙ pair_first a b (value_candidates kinds (view_type c.args.first.now) a) (value_candidates kinds (view_type c.args.second.now) b) c.args.k c.in-Here.c
    (sym c.in-Here.is ∙ c.in_ok-c.ensures)

pub seek_pair-returns-in_ok-pair-in-Here-2 : goal.seek_pair-returns-in_ok-pair-in-Here-2
seek_pair-returns-in_ok-pair-in-Here-2 t c =
    let kinds = c.args.kinds.now in
    let a = c.args.a.now in
    let b = c.args.b.now in
    ap Here (c.in_ok-pair-in-Here-2.ensures ∙ ap (λ d. pair d c.in-Here-2.c) c.in_ok-share-in-Here-2.ensures)
    ∙ pair_second a b (value_candidates kinds (view_type c.args.first.now) a) (value_candidates kinds (view_type c.args.second.now) b) c.args.k c.in-Past.left (Here c.in-Here-2.c)
    (sym c.in-Past.is ∙ c.in_ok-c.ensures) (sym c.in-Here-2.is ∙ c.in_ok-c-in-Past.ensures)

pub seek_pair-returns-in-Past-2 : goal.seek_pair-returns-in-Past-2
seek_pair-returns-in-Past-2 t c =
    let kinds = c.args.kinds.now in
    let a = c.args.a.now in
    let b = c.args.b.now in
    pair_second a b (value_candidates kinds (view_type c.args.first.now) a) (value_candidates kinds (view_type c.args.second.now) b) c.args.k c.in-Past.left (Past c.in-Past-2.left)
    (sym c.in-Past.is ∙ c.in_ok-c.ensures) (sym c.in-Past-2.is ∙ c.in_ok-c-in-Past.ensures)

pub seek_list-without_block-requires-clause-inside : goal.seek_list-without_block-requires-clause-inside
seek_list-without_block-requires-clause-inside t c = omega (arith, c.in-Here.ensures.inside, c.length_of.ensures)

pub seek_list-returns-in_ok-others-in-Here : goal.seek_list-returns-in_ok-others-in-Here
seek_list-returns-in_ok-others-in-Here t c =
    let items = items_of c.args.value.now in
    ap Here c.in_ok-others-in-Here.ensures
    ∙ list_first (listed_data items) (items_in_place c.args.kinds.now (view_type c.args.ty.now) items) _ c.args.k c.in-Here.block c.length_of.ensures c.in-Here.ensures.found

pub seek_list-returns-in_ok-replaced-in-Past : goal.seek_list-returns-in_ok-replaced-in-Past
seek_list-returns-in_ok-replaced-in-Past t c =
    let items = items_of c.args.value.now in
    list_second (listed_data items) (items_in_place c.args.kinds.now (view_type c.args.ty.now) items) _ c.args.k c.in-Past.left c.in_ok-replaced-in-Past.replaced c.length_of.ensures
    c.in-Past.ensures.found c.in_ok-replaced-in-Past.ensures

-- the parts that are found, as their data
abbrev seen : Sought (Vec Data Global) → Sought Datas
seen s = map_sought (λ all. datas_of all.items) s

pub seek_made-small_made-requires : goal.seek_made-small_made-requires
seek_made-small_made-requires t c =
    small_parts c.args.kinds.now (map view_type c.fields-types.result.now) c.args.kind c.args.maker (datas_of c.args.parts.now) c.in-Past.left (datas_of c.in-Here-2.parts.items) c.requires
    (ap seen (sym c.in-Here-2.is) ∙ c.in_ok-parts-in-Past.ensures)

pub seek_made-returns-in_ok-share-in-Here : goal.seek_made-returns-in_ok-share-in-Here
seek_made-returns-in_ok-share-in-Here t c =
    let kinds = c.args.kinds.now in
    let parts = datas_of c.args.parts.now in
    let types = fields_of (maker_of kinds c.args.kind c.args.maker) in
    ap Here c.in_ok-share-in-Here.ensures
    ∙ in_first (own_parts c.args.kind types parts) (map (made c.args.kind c.args.maker) (parts_in_place kinds types parts)) c.args.k _
    (c.in-Here.ensures ∙ ap (λ ts. sought (own_parts c.args.kind ts parts) c.args.k) c.fields-types.ensures)

pub seek_made-returns-in_ok-made-in-Here-2 : goal.seek_made-returns-in_ok-made-in-Here-2
seek_made-returns-in_ok-made-in-Here-2 t c =
    let kinds = c.args.kinds.now in
    let parts = datas_of c.args.parts.now in
    let types = fields_of (maker_of kinds c.args.kind c.args.maker) in
    ap Here c.in_ok-made-in-Here-2.ensures
    ∙ made_second c.args.kind c.args.maker (own_parts c.args.kind types parts) (parts_in_place kinds types parts) c.args.k c.in-Past.left (Here (datas_of c.in-Here-2.parts.items))
    (c.in-Past.ensures ∙ ap (λ ts. sought (own_parts c.args.kind ts parts) c.args.k) c.fields-types.ensures)
    (ap seen (sym c.in-Here-2.is) ∙ c.in_ok-parts-in-Past.ensures ∙ ap (λ ts. sought (parts_in_place kinds ts parts) c.in-Past.left) c.fields-types.ensures)

pub seek_made-returns-in-Past-2 : goal.seek_made-returns-in-Past-2
seek_made-returns-in-Past-2 t c =
    let kinds = c.args.kinds.now in
    let parts = datas_of c.args.parts.now in
    let types = fields_of (maker_of kinds c.args.kind c.args.maker) in
    made_second c.args.kind c.args.maker (own_parts c.args.kind types parts) (parts_in_place kinds types parts) c.args.k c.in-Past.left (Past c.in-Past-2.left)
    (c.in-Past.ensures ∙ ap (λ ts. sought (own_parts c.args.kind ts parts) c.args.k) c.fields-types.ensures)
    (ap seen (sym c.in-Past-2.is) ∙ c.in_ok-parts-in-Past.ensures ∙ ap (λ ts. sought (parts_in_place kinds ts parts) c.in-Past.left) c.fields-types.ensures)
