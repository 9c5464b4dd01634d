use Rattle.std.proofs.Common.{◌≡◌, ◌∙◌, ◌+◌, ◌-◌, ◌/◌, ◌%◌, ◌++◌, ◌∷◌, [], Some, None, map, drop, get_or, length, sym, ap, arith}
use Rattle.std.proofs.lemmas.Grind.{common_steps}
use Rattle.std.proofs.lemmas.List.{map-append}
use Rattle.qk_value.specs.Data.{pair, list, listed_data}
use Rattle.qk_value.specs.Measures.{weight}
use Rattle.qk_value.specs.View.{view_type, view_value, view_values}
use Rattle.qk_value.specs.Types.{list_type, pair_type}
use Rattle.qk_series.specs.Members.{saturated, within, all_within, member, weighed_in, parts_in}
use Rattle.qk_series.specs.Series.{below, series, tuples}
use Rattle.qk_series.specs.Small.{items_of}
use Rattle.qk_series.proofs.FormLaws.{int_form}
use Rattle.qk_series.proofs.MemberLaws.{number_row, pair_step, list_step, list_end, list_whole, tuple_step}
use Rattle.qk_series.proofs.PartLaws.{next}
use Rattle.qk_series.proofs.WithinLaws.{heavy, weight_some, is_heavy, is_light, all_light_told, fits, same_items, part_heavy, parts_done, part_more}
use Rattle.qk_series.proofs.counts.Counts.+build.Goals as goal

pub build-returns-then-left-eq0-clause-member : goal.build-returns-then-left-eq0-clause-member
build-returns-then-left-eq0-clause-member t c =
    let x = member c.args.self.now.kinds.now c.args.depth (view_type c.args.ty.now) c.args.k in
    heavy c.args.left x (omega (arith, c.if-left-eq0.true, weight_some x))

pub build-number_at-requires-clause-number : goal.build-number_at-requires-clause-number
build-number_at-requires-clause-number t c =
    let kinds = c.args.self.now.kinds.now in
    number_row kinds c.args.depth c.args.k (omega (arith, c.requires.number, ap (λ ty. saturated (length (series kinds c.args.depth ty))) (int_form c.args.ty.now c.in-Int.is)))

pub build_items-build-requires : goal.build_items-build-requires
build_items-build-requires t c =
    let kinds = c.args.self.now.kinds.now in
    let l = c.loop-rest in
    let step = list_step kinds l.lower l.rest (view_type c.args.item.now) c.count_list-lists.result c.count_list-lists.ensures c.loop-rest-test.true l.invariant.number in
    (grind (arith, common_steps, c.decreases, l.invariant.light), (omega (arith, step.0, l.invariant.depth, c.requires.depth), step.1))

pub build_items-returns-in-None-clause-items : goal.build_items-returns-in-None-clause-items
build_items-returns-in-None-clause-items t c =
    let kinds = c.args.self.now.kinds.now in
    let ty = view_type c.args.item.now in
    let l = c.loop-rest in
    let n = c.count_list-lists.result in
    let step = list_step kinds l.lower l.rest ty n c.count_list-lists.ensures c.loop-rest-test.true l.invariant.number in
    let items = map view_value l.values.items in
    let x = member kinds (l.lower - 1) ty ((l.rest - 1) / n) in
    let others = listed_data (items_of (member kinds (l.lower - 1) (list_type ty) ((l.rest - 1) % n))) in
    let all = items_of (member kinds c.args.depth (list_type ty) c.args.k) in
    let is : items ++ x ∷ others ≡ listed_data all = ap (λ m. items ++ listed_data (items_of m)) (sym step.3) ∙ l.invariant.whole in
    let told : None ≡ within l.left x = sym (ap weighed_in c.in-None.is) ∙ c.in_ok-build.ensures.member in
    part_heavy items others (listed_data all) x l.left c.args.left is l.invariant.light (is_heavy l.left x told) ∙ ap (all_within c.args.left) (same_items all)

pub build_items-loop-rest-preserved : goal.build_items-loop-rest-preserved
build_items-loop-rest-preserved t c =
    let kinds = c.args.self.now.kinds.now in
    let ty = view_type c.args.item.now in
    let l = c.loop-rest in
    let n = c.count_list-lists.result in
    let step = list_step kinds l.lower l.rest ty n c.count_list-lists.ensures c.loop-rest-test.true l.invariant.number in
    let items = map view_value l.values.items in
    let x = member kinds (l.lower - 1) ty ((l.rest - 1) / n) in
    let others = listed_data (items_of (member kinds (l.lower - 1) (list_type ty) ((l.rest - 1) % n))) in
    let all = items_of (member kinds c.args.depth (list_type ty) c.args.k) in
    let is : items ++ x ∷ others ≡ listed_data all = ap (λ m. items ++ listed_data (items_of m)) (sym step.3) ∙ l.invariant.whole in
    let next = c.in-Some.next in
    let told : Some (view_value next.value, next.left) ≡ within l.left x = sym (ap weighed_in c.in-Some.is) ∙ c.in_ok-build.ensures.member in
    let built = is_light l.left x (view_value next.value) next.left told in
    let added = ap (map view_value) c.in_ok-add-in-Some.ensures.ok ∙ map-append view_value l.values.items (next.value ∷ []) in
    let more = part_more items (map view_value c.add.new.self.items) others (listed_data all) x (view_value next.value) next.left l.left c.args.left is added built.0 built.1 l.invariant.light in
    record {
      depth = omega (arith, l.invariant.depth);
      number = step.2;
      whole = more.0;
      light = more.1;
    }

pub build_items-returns-clause-items : goal.build_items-returns-clause-items
build_items-returns-clause-items t c =
    let kinds = c.args.self.now.kinds.now in
    let ty = view_type c.args.item.now in
    let l = c.loop-rest in
    let items = map view_value l.values.items in
    let all = items_of (member kinds c.args.depth (list_type ty) c.args.k) in
    let rest = listed_data (items_of (member kinds l.lower (list_type ty) l.rest)) in
    parts_done items rest (listed_data all) l.left c.args.left l.invariant.whole (list_end kinds l.lower l.rest ty c.loop-rest-test.false) l.invariant.light
    ∙ ap (all_within c.args.left) (same_items all)

pub build_list-returns-in-Some-clause-member : goal.build_list-returns-in-Some-clause-member
build_list-returns-in-Some-clause-member t c =
    let kinds = c.args.self.now.kinds.now in
    let ty = view_type c.args.item.now in
    let m = member kinds c.args.depth (list_type ty) c.args.k in
    let items = c.in-Some.items in
    let whole : m ≡ list (items_of m) = list_whole kinds c.args.depth c.args.k ty c.requires.number in
    let told : Some (view_values items.values.items, items.left) ≡ all_within c.args.left (items_of m) = sym (ap parts_in c.in-Some.is) ∙ c.in_ok-build_items.ensures.items in
    let built = all_light_told c.args.left (items_of m) (view_values items.values.items) items.left told in
    let value : view_value c.listed.result.value ≡ m = c.listed.ensures.value ∙ ap list built.0 ∙ sym whole in
    (λ i. Some (value i, c.listed.ensures.left i)) ∙ fits (c.args.left + 1) items.left m (omega (arith, built.1, ap weight whole))

pub build_pair-nonzero_div-k : goal.build_pair-nonzero_div-k
build_pair-nonzero_div-k t c =
    (pair_step c.args.self.now.kinds.now c.args.depth c.args.k (view_type c.args.first.now) (view_type c.args.second.now) c.count_at-seconds.result c.count_at-seconds.ensures c.requires.number).2

pub build_pair-build-requires : goal.build_pair-build-requires
build_pair-build-requires t c =
    let step = pair_step c.args.self.now.kinds.now c.args.depth c.args.k (view_type c.args.first.now) (view_type c.args.second.now) c.count_at-seconds.result c.count_at-seconds.ensures c.requires.number in
    (grind (arith, common_steps, c.decreases), (c.requires.depth, step.0))

pub build_pair-nonzero_rem-k : goal.build_pair-nonzero_rem-k
build_pair-nonzero_rem-k t c =
    (pair_step c.args.self.now.kinds.now c.args.depth c.args.k (view_type c.args.first.now) (view_type c.args.second.now) c.count_at-seconds.result c.count_at-seconds.ensures c.requires.number).2

pub build_pair-build-requires-in-Some : goal.build_pair-build-requires-in-Some
build_pair-build-requires-in-Some t c =
    let kinds = c.args.self.now.kinds.now in
    let n = c.count_at-seconds.result in
    let step = pair_step kinds c.args.depth c.args.k (view_type c.args.first.now) (view_type c.args.second.now) n c.count_at-seconds.ensures c.requires.number in
    let x = member kinds c.args.depth (view_type c.args.first.now) (c.args.k / n) in
    let a = c.in-Some.a in
    let told : Some (view_value a.value, a.left) ≡ within c.args.left x = sym (ap weighed_in c.in-Some.is) ∙ c.in_ok-build.ensures.member in
    (grind (arith, common_steps, c.decreases, (is_light c.args.left x (view_value a.value) a.left told).1), (c.requires.depth, step.1))

pub build_pair-returns-in-None-clause-member : goal.build_pair-returns-in-None-clause-member
build_pair-returns-in-None-clause-member t c =
    let kinds = c.args.self.now.kinds.now in
    let n = c.count_at-seconds.result in
    let first = view_type c.args.first.now in
    let second = view_type c.args.second.now in
    let step = pair_step kinds c.args.depth c.args.k first second n c.count_at-seconds.ensures c.requires.number in
    let x = member kinds c.args.depth first (c.args.k / n) in
    let told : None ≡ within c.args.left x = sym (ap weighed_in c.in-None.is) ∙ c.in_ok-build.ensures.member in
    let m = member kinds c.args.depth (pair_type first second) c.args.k in
    heavy (c.args.left + 1) m (omega (arith, ap weight step.3, is_heavy c.args.left x told, weight_some (member kinds c.args.depth second (c.args.k % n))))

pub build_pair-returns-in-None-2-clause-member : goal.build_pair-returns-in-None-2-clause-member
build_pair-returns-in-None-2-clause-member t c =
    let kinds = c.args.self.now.kinds.now in
    let n = c.count_at-seconds.result in
    let first = view_type c.args.first.now in
    let second = view_type c.args.second.now in
    let step = pair_step kinds c.args.depth c.args.k first second n c.count_at-seconds.ensures c.requires.number in
    let x = member kinds c.args.depth first (c.args.k / n) in
    let y = member kinds c.args.depth second (c.args.k % n) in
    let a = c.in-Some.a in
    let one : Some (view_value a.value, a.left) ≡ within c.args.left x = sym (ap weighed_in c.in-Some.is) ∙ c.in_ok-build.ensures.member in
    let told : None ≡ within a.left y = sym (ap weighed_in c.in-None-2.is) ∙ c.in_ok-build-in-Some.ensures.member in
    let m = member kinds c.args.depth (pair_type first second) c.args.k in
    heavy (c.args.left + 1) m (omega (arith, ap weight step.3, (is_light c.args.left x (view_value a.value) a.left one).1, is_heavy a.left y told))

pub build_pair-returns-in_ok-pair-in-Some-2-clause-member : goal.build_pair-returns-in_ok-pair-in-Some-2-clause-member
build_pair-returns-in_ok-pair-in-Some-2-clause-member t c =
    let kinds = c.args.self.now.kinds.now in
    let n = c.count_at-seconds.result in
    let first = view_type c.args.first.now in
    let second = view_type c.args.second.now in
    let step = pair_step kinds c.args.depth c.args.k first second n c.count_at-seconds.ensures c.requires.number in
    let x = member kinds c.args.depth first (c.args.k / n) in
    let y = member kinds c.args.depth second (c.args.k % n) in
    let a = c.in-Some.a in
    let b = c.in-Some-2.b in
    let one = is_light c.args.left x (view_value a.value) a.left (sym (ap weighed_in c.in-Some.is) ∙ c.in_ok-build.ensures.member) in
    let two = is_light a.left y (view_value b.value) b.left (sym (ap weighed_in c.in-Some-2.is) ∙ c.in_ok-build-in-Some.ensures.member) in
    let m = member kinds c.args.depth (pair_type first second) c.args.k in
    let made = c.in_ok-pair-in-Some-2.ensures in
    let value = made.0 ∙ (λ i. pair (one.0 i) (two.0 i)) ∙ sym step.3 in
    (λ i. Some (value i, made.1 i)) ∙ fits (c.args.left + 1) b.left m (omega (arith, ap weight step.3, one.1, two.1))

pub build_parts-nonzero_div-rest : goal.build_parts-nonzero_div-rest
build_parts-nonzero_div-rest t c =
    let kinds = c.args.self.now.kinds.now in
    let d = c.args.depth in
    let l = c.loop-i in
    let n = c.count_tuples-others.result in
    let fields = c.args.fields.now in
    let ty = c.index-fields-i.result in
    let rest = map view_type (drop (l.i + 1) fields) in
    let types : map view_type (drop l.i fields) ≡ view_type ty ∷ rest = ap (map view_type) (next fields l.i ty c.loop-i-test.true c.index-fields-i.is) in
    let count : n ≡ saturated (length (tuples (map (below kinds d) rest))) = c.count_tuples-others.ensures ∙ ap (λ ts. saturated (length (tuples (map (below kinds d) (map view_type ts))))) c.split_at.ensures.back in
    let step = tuple_step kinds d l.rest (view_type ty) rest n count (omega (arith, l.invariant.number, ap (λ ts. saturated (length (tuples (map (below kinds d) ts)))) types)) in
    step.3

pub build_parts-build-requires : goal.build_parts-build-requires
build_parts-build-requires t c =
    let kinds = c.args.self.now.kinds.now in
    let d = c.args.depth in
    let l = c.loop-i in
    let n = c.count_tuples-others.result in
    let fields = c.args.fields.now in
    let ty = c.index-fields-i.result in
    let rest = map view_type (drop (l.i + 1) fields) in
    let types : map view_type (drop l.i fields) ≡ view_type ty ∷ rest = ap (map view_type) (next fields l.i ty c.loop-i-test.true c.index-fields-i.is) in
    let count : n ≡ saturated (length (tuples (map (below kinds d) rest))) = c.count_tuples-others.ensures ∙ ap (λ ts. saturated (length (tuples (map (below kinds d) (map view_type ts))))) c.split_at.ensures.back in
    let step = tuple_step kinds d l.rest (view_type ty) rest n count (omega (arith, l.invariant.number, ap (λ ts. saturated (length (tuples (map (below kinds d) ts)))) types)) in
    (grind (arith, common_steps, c.decreases, l.invariant.light), (omega (arith, step.0, c.requires.depth), step.1))

pub build_parts-returns-in-None-clause-parts : goal.build_parts-returns-in-None-clause-parts
build_parts-returns-in-None-clause-parts t c =
    let kinds = c.args.self.now.kinds.now in
    let d = c.args.depth in
    let l = c.loop-i in
    let n = c.count_tuples-others.result in
    let fields = c.args.fields.now in
    let ty = c.index-fields-i.result in
    let rest = map view_type (drop (l.i + 1) fields) in
    let types : map view_type (drop l.i fields) ≡ view_type ty ∷ rest = ap (map view_type) (next fields l.i ty c.loop-i-test.true c.index-fields-i.is) in
    let count : n ≡ saturated (length (tuples (map (below kinds d) rest))) = c.count_tuples-others.ensures ∙ ap (λ ts. saturated (length (tuples (map (below kinds d) (map view_type ts))))) c.split_at.ensures.back in
    let step = tuple_step kinds d l.rest (view_type ty) rest n count (omega (arith, l.invariant.number, ap (λ ts. saturated (length (tuples (map (below kinds d) ts)))) types)) in
    let items = map view_value l.values.items in
    let x = member kinds (d - 1) (view_type ty) (l.rest / n) in
    let others = get_or (tuples (map (below kinds d) rest)) (l.rest % n) [] in
    let all = get_or (tuples (map (below kinds d) (map view_type fields))) c.args.k [] in
    let is : items ++ x ∷ others ≡ all = ap (λ xs. items ++ xs) (sym step.4 ∙ ap (λ ts. get_or (tuples (map (below kinds d) ts)) l.rest []) (sym types)) ∙ l.invariant.whole in
    let told : None ≡ within l.left x = sym (ap weighed_in c.in-None.is) ∙ c.in_ok-build.ensures.member in
    part_heavy items others all x l.left c.args.left is l.invariant.light (is_heavy l.left x told)

pub build_parts-nonzero_rem-rest : goal.build_parts-nonzero_rem-rest
build_parts-nonzero_rem-rest t c =
    let kinds = c.args.self.now.kinds.now in
    let d = c.args.depth in
    let l = c.loop-i in
    let n = c.count_tuples-others.result in
    let fields = c.args.fields.now in
    let ty = c.index-fields-i.result in
    let rest = map view_type (drop (l.i + 1) fields) in
    let types : map view_type (drop l.i fields) ≡ view_type ty ∷ rest = ap (map view_type) (next fields l.i ty c.loop-i-test.true c.index-fields-i.is) in
    let count : n ≡ saturated (length (tuples (map (below kinds d) rest))) = c.count_tuples-others.ensures ∙ ap (λ ts. saturated (length (tuples (map (below kinds d) (map view_type ts))))) c.split_at.ensures.back in
    let step = tuple_step kinds d l.rest (view_type ty) rest n count (omega (arith, l.invariant.number, ap (λ ts. saturated (length (tuples (map (below kinds d) ts)))) types)) in
    step.3

pub build_parts-loop-i-preserved : goal.build_parts-loop-i-preserved
build_parts-loop-i-preserved t c =
    let kinds = c.args.self.now.kinds.now in
    let d = c.args.depth in
    let l = c.loop-i in
    let n = c.count_tuples-others.result in
    let fields = c.args.fields.now in
    let ty = c.index-fields-i.result in
    let rest = map view_type (drop (l.i + 1) fields) in
    let types : map view_type (drop l.i fields) ≡ view_type ty ∷ rest = ap (map view_type) (next fields l.i ty c.loop-i-test.true c.index-fields-i.is) in
    let count : n ≡ saturated (length (tuples (map (below kinds d) rest))) = c.count_tuples-others.ensures ∙ ap (λ ts. saturated (length (tuples (map (below kinds d) (map view_type ts))))) c.split_at.ensures.back in
    let step = tuple_step kinds d l.rest (view_type ty) rest n count (omega (arith, l.invariant.number, ap (λ ts. saturated (length (tuples (map (below kinds d) ts)))) types)) in
    let items = map view_value l.values.items in
    let x = member kinds (d - 1) (view_type ty) (l.rest / n) in
    let others = get_or (tuples (map (below kinds d) rest)) (l.rest % n) [] in
    let all = get_or (tuples (map (below kinds d) (map view_type fields))) c.args.k [] in
    let is : items ++ x ∷ others ≡ all = ap (λ xs. items ++ xs) (sym step.4 ∙ ap (λ ts. get_or (tuples (map (below kinds d) ts)) l.rest []) (sym types)) ∙ l.invariant.whole in
    let next = c.in-Some.next in
    let told : Some (view_value next.value, next.left) ≡ within l.left x = sym (ap weighed_in c.in-Some.is) ∙ c.in_ok-build.ensures.member in
    let built = is_light l.left x (view_value next.value) next.left told in
    let added = ap (map view_value) c.in_ok-add-in-Some.ensures.ok ∙ map-append view_value l.values.items (next.value ∷ []) in
    let more = part_more items (map view_value c.add.new.self.items) others all x (view_value next.value) next.left l.left c.args.left is added built.0 built.1 l.invariant.light in
    record { number = step.2; whole = more.0; light = more.1 }
