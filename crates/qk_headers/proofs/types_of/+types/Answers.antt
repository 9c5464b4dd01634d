use Rattle.std.proofs.Common.{rules, ◌≡◌, ◌∙◌, ◌≤◌, ◌<◌, sym, ap, subst, Ok, Err, Some, None, IfOk, IfErr, List, [], ◌∷◌, length, refl, arith}
use Rattle.qk_syntax.specs.PlainTrees.{list, PlainTrees, end, more}
use Rattle.qk_syntax.specs.Refusals.{IfRefusal}
use Rattle.qk_syntax.specs.View.{view, views}
use Rattle.qk_names.specs.NameTable.{names_in}
use Rattle.qk_headers.specs.TypesOf.{type_at, formed_type, head_former, parts_after}
use Rattle.qk_headers.specs.declared.types_of.Former.TheVariants as formers
use Rattle.qk_value.specs.Types.{list_type, pair_type}
use Rattle.qk_value.specs.View.{view_type}
use Rattle.qk_names.proofs.Sequencing.{after_ok}
use Rattle.qk_headers.proofs.TypeForms.{by_former, one_part, two_parts, list_few, list_many, pair_few, pair_many}
use Rattle.qk_headers.proofs.types_of.+types.Goals as goal
use Rattle.qk_headers.proofs.types_of.+types.Goals.{list_of-in_default-via-then-parts-lt2, list_of-in_default-via-else-parts-lt2+else-parts-lt3, pair_of-in_default-via-then-parts-lt3, pair_of-in_default-via-else-parts-lt3+else-parts-lt4}

pub headed_type-returns-in-None-clause-refused : goal.headed_type-returns-in-None-clause-refused
headed_type-returns-in-None-clause-refused t c =
    let names = names_in c.args.names.now in
    let whole = by_former names c.args.place (views c.args.parts.now) ∙ ap (λ f. formed_type names c.args.place f (parts_after (views c.args.parts.now))) (sym c.former_of.ensures ∙ c.in-None.is) in
    subst (λ e. IfRefusal e (λ r. type_at names (list c.args.place (views c.args.parts.now)) ≡ Err r)) (sym c.refusal.ensures) whole

pub headed_type-returns-in-Some-List-clause-ty : goal.headed_type-returns-in-Some-List-clause-ty
headed_type-returns-in-Some-List-clause-ty t c =
    let names = names_in c.args.names.now in
    let head : c.former_of.result ≡ Some formers.List = search rules in
    let whole = by_former names c.args.place (views c.args.parts.now) ∙ ap (λ f. formed_type names c.args.place f (parts_after (views c.args.parts.now))) (sym c.former_of.ensures ∙ head) in
    subst (λ x. IfOk c.list_of.result (λ u. x ≡ Ok (view_type u))) (sym whole) c.list_of.ensures.ty

pub headed_type-returns-in-Some-List-clause-refused : goal.headed_type-returns-in-Some-List-clause-refused
headed_type-returns-in-Some-List-clause-refused t c =
    let names = names_in c.args.names.now in
    let head : c.former_of.result ≡ Some formers.List = search rules in
    let whole = by_former names c.args.place (views c.args.parts.now) ∙ ap (λ f. formed_type names c.args.place f (parts_after (views c.args.parts.now))) (sym c.former_of.ensures ∙ head) in
    subst (λ x. IfErr c.list_of.result (λ e. IfRefusal e (λ r. x ≡ Err r))) (sym whole) c.list_of.ensures.refused

pub headed_type-returns-in-Some-Pair-clause-ty : goal.headed_type-returns-in-Some-Pair-clause-ty
headed_type-returns-in-Some-Pair-clause-ty t c =
    let names = names_in c.args.names.now in
    let head : c.former_of.result ≡ Some formers.Pair = search rules in
    let whole = by_former names c.args.place (views c.args.parts.now) ∙ ap (λ f. formed_type names c.args.place f (parts_after (views c.args.parts.now))) (sym c.former_of.ensures ∙ head) in
    subst (λ x. IfOk c.pair_of.result (λ u. x ≡ Ok (view_type u))) (sym whole) c.pair_of.ensures.ty

pub headed_type-returns-in-Some-Pair-clause-refused : goal.headed_type-returns-in-Some-Pair-clause-refused
headed_type-returns-in-Some-Pair-clause-refused t c =
    let names = names_in c.args.names.now in
    let head : c.former_of.result ≡ Some formers.Pair = search rules in
    let whole = by_former names c.args.place (views c.args.parts.now) ∙ ap (λ f. formed_type names c.args.place f (parts_after (views c.args.parts.now))) (sym c.former_of.ensures ∙ head) in
    subst (λ x. IfErr c.pair_of.result (λ e. IfRefusal e (λ r. x ≡ Err r))) (sym whole) c.pair_of.ensures.refused

pub list_of-returns-in_default-clause-refused : goal.list_of-returns-in_default-clause-refused
list_of-returns-in_default-clause-refused t c =
    let names = names_in c.args.names.now in
    subst (λ e. IfRefusal e (λ r. formed_type names c.args.place (Some formers.List) (parts_after (views c.args.parts.now)) ≡ Err r)) (sym c.refusal.ensures)
    (elim c.in_default.branch [
      | list_of-in_default-via-then-parts-lt2 w ↦ list_few names c.args.place c.args.parts.now (search rules)
      | list_of-in_default-via-else-parts-lt2+else-parts-lt3 w ↦ list_many names c.args.place c.args.parts.now (search rules)
    ])

pub list_of-returns-in_err-item-clause-refused : goal.list_of-returns-in_err-item-clause-refused
list_of-returns-in_err-item-clause-refused t c =
    let names = names_in c.args.names.now in
    let shape = one_part c.args.parts.now c.item-item.result c.in-len2.len_at_least c.in-len2.len_below c.item-item.is in
    subst (λ ts. IfErr c.from_residual.result (λ e. IfRefusal e (λ r. formed_type names c.args.place (Some formers.List) ts ≡ Err r))) (sym shape) (search rules)

pub list_of-returns-clause-ty : goal.list_of-returns-clause-ty
list_of-returns-clause-ty t c =
    let names = names_in c.args.names.now in
    let shape = one_part c.args.parts.now c.item-item.result c.in-len2.len_at_least c.in-len2.len_below c.item-item.is in
    ap (formed_type names c.args.place (Some formers.List)) shape ∙ after_ok _ _ _ _ c.in_ok-item.ensures.ty (ap Ok (sym c.in_ok-listed.ensures))

pub pair_of-returns-in_default-clause-refused : goal.pair_of-returns-in_default-clause-refused
pair_of-returns-in_default-clause-refused t c =
    let names = names_in c.args.names.now in
    subst (λ e. IfRefusal e (λ r. formed_type names c.args.place (Some formers.Pair) (parts_after (views c.args.parts.now)) ≡ Err r)) (sym c.refusal.ensures)
    (elim c.in_default.branch [
      | pair_of-in_default-via-then-parts-lt3 w ↦ pair_few names c.args.place c.args.parts.now (search rules)
      | pair_of-in_default-via-else-parts-lt3+else-parts-lt4 w ↦ pair_many names c.args.place c.args.parts.now (search rules)
    ])

pub pair_of-returns-in_err-first-clause-refused : goal.pair_of-returns-in_err-first-clause-refused
pair_of-returns-in_err-first-clause-refused t c =
    let names = names_in c.args.names.now in
    let shape = two_parts c.args.parts.now c.first-item.result c.second-item.result c.in-len3.len_at_least c.in-len3.len_below c.first-item.is c.second-item.is in
    subst (λ ts. IfErr c.from_residual.result (λ e. IfRefusal e (λ r. formed_type names c.args.place (Some formers.Pair) ts ≡ Err r))) (sym shape) (search rules)

pub pair_of-returns-in_err-second-clause-refused : goal.pair_of-returns-in_err-second-clause-refused
pair_of-returns-in_err-second-clause-refused t c =
    let names = names_in c.args.names.now in
    let shape = two_parts c.args.parts.now c.first-item.result c.second-item.result c.in-len3.len_at_least c.in-len3.len_below c.first-item.is c.second-item.is in
    let inner = ap (formed_type names c.args.place (Some formers.Pair)) shape ∙ after_ok _ _ _ _ c.in_ok-first.ensures.ty refl in
    subst (λ x. IfErr c.from_residual-in_err-second.result (λ e. IfRefusal e (λ r. x ≡ Err r))) (sym inner) (search rules)

pub pair_of-returns-clause-ty : goal.pair_of-returns-clause-ty
pair_of-returns-clause-ty t c =
    let names = names_in c.args.names.now in
    let shape = two_parts c.args.parts.now c.first-item.result c.second-item.result c.in-len3.len_at_least c.in-len3.len_below c.first-item.is c.second-item.is in
    ap (formed_type names c.args.place (Some formers.Pair)) shape
    ∙ after_ok _ _ _ _ c.in_ok-first.ensures.ty (after_ok _ _ _ _ c.in_ok-second.ensures.ty (ap Ok (sym c.in_ok-paired.ensures)))
