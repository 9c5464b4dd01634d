use Rattle.std.proofs.Common.{◌∙◌, ap, sym}
use Rattle.qk_value.specs.Types.{same_type}
use Rattle.qk_value.specs.View.{view_type}
use Rattle.qk_value.proofs.TypeLaws.{unlike_list, unlike_pair, unlike_made, seen_list, seen_pair, seen_made}
use Rattle.qk_value.proofs.ty.Ty.+is_same.Goals as goal

pub returns-in_default-3 : goal.returns-in_default-3
returns-in_default-3 t c =
    let item = c.in_default.field-0-0 in
    unlike_list (view_type item.value) c.args.other.now c.in_default.not-List-1
    ∙ ap (λ v. same_type v (view_type c.args.other.now)) (sym (ap view_type c.in_default.is-0 ∙ seen_list item))

pub returns-in_default-4 : goal.returns-in_default-4
returns-in_default-4 t c =
    let first = c.in_default.field-0-0 in
    let second = c.in_default.field-1-0 in
    unlike_pair (view_type first.value) (view_type second.value) c.args.other.now c.in_default.not-Pair-1
    ∙ ap (λ v. same_type v (view_type c.args.other.now)) (sym (ap view_type c.in_default.is-0 ∙ seen_pair first second))

pub returns-in_default-5 : goal.returns-in_default-5
returns-in_default-5 t c =
    let kind = c.in_default.field-0-0 in
    unlike_made kind c.args.other.now c.in_default.not-Made-1
    ∙ ap (λ v. same_type v (view_type c.args.other.now)) (sym (ap view_type c.in_default.is-0 ∙ seen_made kind))
