use Rattle.std.proofs.Common.{rules, ◌≡◌, ◌∙◌, sym, ap, subst, Ok, Err, IfErr}
use Rattle.qk_syntax.specs.Refusals.{IfRefusal}
use Rattle.qk_syntax.specs.View.{views}
use Rattle.qk_expressions.specs.Expressions.{nil_at}
use Rattle.qk_typing.specs.TablesView.{tables_in}
use Rattle.qk_headers.specs.TypesOf.{parts_after}
use Rattle.qk_expressions.proofs.NilForms.{nil_few, nil_many}
use Rattle.qk_names.proofs.Sequencing.{after_ok}
use Rattle.qk_headers.proofs.TypeForms.{one_part}
use Rattle.qk_expressions.proofs.atoms.nil_at.Goals as goal
use Rattle.qk_expressions.proofs.atoms.nil_at.Goals.{in_default-via-then-parts-lt2, in_default-via-else-parts-lt2+else-parts-lt3}

pub returns-in_default-clause-refused : goal.returns-in_default-clause-refused
returns-in_default-clause-refused c =
    let d = tables_in c.args.tables.now in
    subst (λ e. IfRefusal e (λ r. nil_at d c.args.place (parts_after (views c.args.parts.now)) ≡ Err r)) (sym c.refusal.ensures)
    (elim c.in_default.branch [
      | in_default-via-then-parts-lt2 w ↦ nil_few d c.args.place c.args.parts.now (search rules)
      | in_default-via-else-parts-lt2+else-parts-lt3 w ↦ nil_many d c.args.place c.args.parts.now (search rules)
    ])

pub returns-in_err-item-clause-refused : goal.returns-in_err-item-clause-refused
returns-in_err-item-clause-refused c =
    let d = tables_in c.args.tables.now in
    let shape = one_part c.args.parts.now c.item-item.result c.in-len2.len_at_least c.in-len2.len_below c.item-item.is in
    subst (λ ts. IfErr c.from_residual.result (λ e. IfRefusal e (λ r. nil_at d c.args.place ts ≡ Err r))) (sym shape) (search rules)

pub returns-clause-ok : goal.returns-clause-ok
returns-clause-ok c =
    let d = tables_in c.args.tables.now in
    let shape = one_part c.args.parts.now c.item-item.result c.in-len2.len_at_least c.in-len2.len_below c.item-item.is in
    ap (nil_at d c.args.place) shape ∙ after_ok _ _ _ _ c.in_ok-item.ensures.ty (ap Ok (sym c.in_ok-empty_list.ensures))
