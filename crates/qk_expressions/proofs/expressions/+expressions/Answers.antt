use Rattle.std.proofs.Common.{rules, ◌≡◌, ◌∙◌, ◌+◌, sym, ap, subst, map, take, drop, Ok, Err, IfOk, IfErr, [], ◌∷◌, refl}
use Rattle.qk_syntax.specs.PlainTrees.{list}
use Rattle.qk_syntax.specs.Refusals.{IfRefusal}
use Rattle.qk_syntax.specs.View.{view, views}
use Rattle.qk_value.specs.View.{view_type}
use Rattle.qk_expressions.specs.CaseSteps.{case_at}
use Rattle.qk_names.specs.Checks.{◌>>=◌}
use Rattle.qk_expressions.specs.ExpressionSteps.{let_body}
use Rattle.qk_expressions.specs.Expressions.{expressions, let_at, match_at, cases_at}
use Rattle.qk_typing.specs.Operators.{binding, matching, operator}
use Rattle.qk_typing.specs.PartsView.{words_in, form_in, operator_in}
use Rattle.qk_expressions.specs.CasesView.{shape_in, cases_in}
use Rattle.qk_typing.specs.TablesView.{tables_in, typed_in}
use Rattle.qk_headers.specs.TypesOf.{parts_after}
use Rattle.qk_expressions.proofs.CaseLaws.{case_few, case_many, next_case}
use Rattle.qk_expressions.proofs.ExpressionForms.{of_form, let_few, let_many, match_few, three_parts, value_first, after_one}
use Rattle.qk_typing.proofs.ScopeLaws.{unbound}
use Rattle.qk_names.proofs.Sequencing.{after_ok, then_ok}
use Rattle.qk_expressions.proofs.expressions.+expressions.Goals as goal
use Rattle.qk_expressions.proofs.expressions.+expressions.Goals.{let_at-in_default-via-then-parts-lt4, let_at-in_default-via-else-parts-lt4+else-parts-lt5, case_of-in_default-via-then-parts-lt2, case_of-in_default-via-else-parts-lt2+else-parts-lt3}

pub headed-returns-in-Binding-clause-ok : goal.headed-returns-in-Binding-clause-ok
headed-returns-in-Binding-clause-ok t c =
    let a = c.args in
    let head = c.in_ok-head_form.ensures.ok ∙ ap (λ f. Ok (form_in f)) c.in-Binding.is in
    let whole = of_form (tables_in a.tables.now) a.scope.now.items a.place a.parts.now c.head-item.result binding c.in-len1-up.len_at_least c.head-item.is head in
    subst (λ x. IfOk c.let_at.result (λ e. x ≡ Ok (typed_in e))) (sym whole) c.let_at.ensures.ok

pub headed-returns-in-Binding-clause-refused : goal.headed-returns-in-Binding-clause-refused
headed-returns-in-Binding-clause-refused t c =
    let a = c.args in
    let head = c.in_ok-head_form.ensures.ok ∙ ap (λ f. Ok (form_in f)) c.in-Binding.is in
    let whole = of_form (tables_in a.tables.now) a.scope.now.items a.place a.parts.now c.head-item.result binding c.in-len1-up.len_at_least c.head-item.is head in
    subst (λ x. IfErr c.let_at.result (λ e. IfRefusal e (λ r. x ≡ Err r))) (sym whole) c.let_at.ensures.refused

pub headed-returns-in-Matching-clause-ok : goal.headed-returns-in-Matching-clause-ok
headed-returns-in-Matching-clause-ok t c =
    let a = c.args in
    let head = c.in_ok-head_form.ensures.ok ∙ ap (λ f. Ok (form_in f)) c.in-Matching.is in
    let whole = of_form (tables_in a.tables.now) a.scope.now.items a.place a.parts.now c.head-item.result matching c.in-len1-up.len_at_least c.head-item.is head in
    subst (λ x. IfOk c.match_at.result (λ e. x ≡ Ok (typed_in e))) (sym whole) c.match_at.ensures.ok

pub headed-returns-in-Matching-clause-refused : goal.headed-returns-in-Matching-clause-refused
headed-returns-in-Matching-clause-refused t c =
    let a = c.args in
    let head = c.in_ok-head_form.ensures.ok ∙ ap (λ f. Ok (form_in f)) c.in-Matching.is in
    let whole = of_form (tables_in a.tables.now) a.scope.now.items a.place a.parts.now c.head-item.result matching c.in-len1-up.len_at_least c.head-item.is head in
    subst (λ x. IfErr c.match_at.result (λ e. IfRefusal e (λ r. x ≡ Err r))) (sym whole) c.match_at.ensures.refused

pub headed-returns-in-Operator-clause-ok : goal.headed-returns-in-Operator-clause-ok
headed-returns-in-Operator-clause-ok t c =
    let a = c.args in
    let head = c.in_ok-head_form.ensures.ok ∙ ap (λ f. Ok (form_in f)) c.in-Operator.is in
    let whole = of_form (tables_in a.tables.now) a.scope.now.items a.place a.parts.now c.head-item.result (operator (operator_in c.in-Operator.op)) c.in-len1-up.len_at_least c.head-item.is head in
    subst (λ x. IfOk c.operator_at.result (λ e. x ≡ Ok (typed_in e))) (sym whole) c.operator_at.ensures.ok

pub headed-returns-in-Operator-clause-refused : goal.headed-returns-in-Operator-clause-refused
headed-returns-in-Operator-clause-refused t c =
    let a = c.args in
    let head = c.in_ok-head_form.ensures.ok ∙ ap (λ f. Ok (form_in f)) c.in-Operator.is in
    let whole = of_form (tables_in a.tables.now) a.scope.now.items a.place a.parts.now c.head-item.result (operator (operator_in c.in-Operator.op)) c.in-len1-up.len_at_least c.head-item.is head in
    subst (λ x. IfErr c.operator_at.result (λ e. IfRefusal e (λ r. x ≡ Err r))) (sym whole) c.operator_at.ensures.refused

pub operator_at-returns-in_err-parts-clause-refused : goal.operator_at-returns-in_err-parts-clause-refused
operator_at-returns-in_err-parts-clause-refused t c =
    subst (λ x. IfErr c.from_residual-in_err-parts.result (λ e. IfRefusal e (λ r. x ≡ Err r))) (sym (then_ok _ _ _ c.in_ok-check_count.ensures.ok)) (search rules)

pub operator_at-returns-clause-ok : goal.operator_at-returns-clause-ok
operator_at-returns-clause-ok t c =
    subst (λ x. IfOk c.applied.result (λ e. x ≡ Ok (typed_in e))) (sym (then_ok _ _ _ c.in_ok-check_count.ensures.ok ∙ after_ok _ _ _ _ c.in_ok-parts.ensures.ok refl)) c.applied.ensures.ok

pub operator_at-returns-clause-refused : goal.operator_at-returns-clause-refused
operator_at-returns-clause-refused t c =
    subst (λ x. IfErr c.applied.result (λ e. IfRefusal e (λ r. x ≡ Err r))) (sym (then_ok _ _ _ c.in_ok-check_count.ensures.ok ∙ after_ok _ _ _ _ c.in_ok-parts.ensures.ok refl))
    c.applied.ensures.refused

pub arguments-loop-i-init : goal.arguments-loop-i-init
arguments-loop-i-init t c = record {
  scope = refl;
  left = ap (expressions (tables_in c.args.tables.now) c.args.scope.now.items []) (after_one c.args.parts.now) ∙ ap (λ xs. expressions (tables_in c.args.tables.now) c.args.scope.now.items (map typed_in xs) (views (drop 1 c.args.parts.now))) (sym c.make-seen.ensures);
}

pub let_at-returns-in_default-clause-refused : goal.let_at-returns-in_default-clause-refused
let_at-returns-in_default-clause-refused t c =
    let d = tables_in c.args.tables.now in
    let s = c.args.scope.now.items in
    subst (λ e. IfRefusal e (λ r. let_at d s c.args.place (parts_after (views c.args.parts.now)) ≡ Err r)) (sym c.refusal.ensures)
    (elim c.in_default.branch [
      | let_at-in_default-via-then-parts-lt4 w ↦ let_few d s c.args.place c.args.parts.now (search rules)
      | let_at-in_default-via-else-parts-lt4+else-parts-lt5 w ↦ let_many d s c.args.place c.args.parts.now (search rules)
    ])

pub let_at-returns-in_err-name-clause-refused : goal.let_at-returns-in_err-name-clause-refused
let_at-returns-in_err-name-clause-refused t c =
    let a = c.args in
    let shape = three_parts a.parts.now c.variable-item.result c.value-item.result c.body-item.result c.in-len4.len_at_least c.in-len4.len_below c.variable-item.is c.value-item.is c.body-item.is in
    subst (λ ts. IfErr c.from_residual.result (λ e. IfRefusal e (λ r. let_at (tables_in a.tables.now) a.scope.now.items a.place ts ≡ Err r))) (sym shape) (search rules)

pub let_at-returns-in_err-value-clause-refused : goal.let_at-returns-in_err-value-clause-refused
let_at-returns-in_err-value-clause-refused t c =
    let a = c.args in
    let shape = three_parts a.parts.now c.variable-item.result c.value-item.result c.body-item.result c.in-len4.len_at_least c.in-len4.len_below c.variable-item.is c.value-item.is c.body-item.is in
    let named = ap (let_at (tables_in a.tables.now) a.scope.now.items a.place) shape ∙ after_ok _ _ _ _ c.in_ok-name.ensures.ok refl in
    subst (λ x. IfErr c.from_residual-in_err-value.result (λ e. IfRefusal e (λ r. x ≡ Err r))) (sym named) (search rules)

pub let_at-returns-clause-ok : goal.let_at-returns-clause-ok
let_at-returns-clause-ok t c =
    let a = c.args in
    let d = tables_in a.tables.now in
    let shape = three_parts a.parts.now c.variable-item.result c.value-item.result c.body-item.result c.in-len4.len_at_least c.in-len4.len_below c.variable-item.is c.value-item.is c.body-item.is in
    let named = ap (let_at d a.scope.now.items a.place) shape ∙ after_ok _ _ _ _ c.in_ok-name.ensures.ok (after_ok _ _ _ _ c.in_ok-value.ensures.ok refl) in
    let whole = named ∙ ap (λ s. let_body d s a.place c.in_ok-name.name.items (typed_in c.in_ok-value.value) (view c.body-item.result)) (sym c.in_ok-value.ensures.scope) in
    subst (λ x. IfOk c.let_body.result (λ e. x ≡ Ok (typed_in e))) (sym whole) c.let_body.ensures.ok

pub let_at-returns-clause-refused : goal.let_at-returns-clause-refused
let_at-returns-clause-refused t c =
    let a = c.args in
    let d = tables_in a.tables.now in
    let shape = three_parts a.parts.now c.variable-item.result c.value-item.result c.body-item.result c.in-len4.len_at_least c.in-len4.len_below c.variable-item.is c.value-item.is c.body-item.is in
    let named = ap (let_at d a.scope.now.items a.place) shape ∙ after_ok _ _ _ _ c.in_ok-name.ensures.ok (after_ok _ _ _ _ c.in_ok-value.ensures.ok refl) in
    let whole = named ∙ ap (λ s. let_body d s a.place c.in_ok-name.name.items (typed_in c.in_ok-value.value) (view c.body-item.result)) (sym c.in_ok-value.ensures.scope) in
    subst (λ x. IfErr c.let_body.result (λ e. IfRefusal e (λ r. x ≡ Err r))) (sym whole) c.let_body.ensures.refused

pub let_body-returns-clause-scope : goal.let_body-returns-clause-scope
let_body-returns-clause-scope t c =
    let a = c.args in
    unbound a.scope.now.items _ (c.as_slice.result.now ∷ []) (view_type a.value.ty ∷ [])
    (c.unbind.ensures ∙ (λ i. take (c.len-seen.ensures i) ((c.in_ok-body.ensures.scope ∙ c.in_ok-bind.ensures) i)))

pub match_at-returns-in_default-clause-refused : goal.match_at-returns-in_default-clause-refused
match_at-returns-in_default-clause-refused t c =
    let a = c.args in
    subst (λ e. IfRefusal e (λ r. match_at (tables_in a.tables.now) a.scope.now.items a.place (parts_after (views a.parts.now)) ≡ Err r)) (sym c.refusal.ensures)
    (match_few (tables_in a.tables.now) a.scope.now.items a.place a.parts.now (search rules))

pub match_at-returns-in_err-value-clause-refused : goal.match_at-returns-in_err-value-clause-refused
match_at-returns-in_err-value-clause-refused t c =
    let a = c.args in
    let shape = value_first a.parts.now c.value-item.result c.in-len2-up.len_at_least c.value-item.is in
    subst (λ ts. IfErr c.from_residual.result (λ e. IfRefusal e (λ r. match_at (tables_in a.tables.now) a.scope.now.items a.place ts ≡ Err r))) (sym shape) (search rules)

pub body_under-returns-clause-scope : goal.body_under-returns-clause-scope
body_under-returns-clause-scope t c =
    let a = c.args in
    unbound a.scope.now.items _ (words_in a.names.now) (map view_type a.types.now)
    (c.unbind.ensures ∙ (λ i. take (c.len-seen.ensures i) ((c.in_ok-body.ensures.scope ∙ c.in_ok-bind_all.ensures) i)))

pub cases_at-returns-in_err-case_at-clause-refused : goal.cases_at-returns-in_err-case_at-clause-refused
cases_at-returns-in_err-case_at-clause-refused t c =
    let a = c.args in
    let d = tables_in a.tables.now in
    let next = next_case d a.scope.now.items (map shape_in a.shapes.now) (cases_in c.loop-i.cases) a.parts.now c.loop-i.i c.index-parts-i.result (search rules) c.index-parts-i.is _ c.loop-i.invariant.left in
    let whole = next ∙ ap (λ s. case_at d s (map shape_in a.shapes.now) (cases_in c.loop-i.cases) (view c.index-parts-i.result) >>= λ after. cases_at d a.scope.now.items (map shape_in a.shapes.now) after (views (drop (c.loop-i.i + 1) a.parts.now))) (sym c.loop-i.invariant.scope) in
    subst (λ x. IfErr c.from_residual.result (λ e. IfRefusal e (λ r. x ≡ Err r))) (sym whole) (search rules)

pub cases_at-loop-i-preserved : goal.cases_at-loop-i-preserved
cases_at-loop-i-preserved t c =
    let a = c.args in
    let d = tables_in a.tables.now in
    let next = next_case d a.scope.now.items (map shape_in a.shapes.now) (cases_in c.loop-i.cases) a.parts.now c.loop-i.i c.index-parts-i.result (search rules) c.index-parts-i.is _ c.loop-i.invariant.left in
    let whole = next ∙ ap (λ s. case_at d s (map shape_in a.shapes.now) (cases_in c.loop-i.cases) (view c.index-parts-i.result) >>= λ after. cases_at d a.scope.now.items (map shape_in a.shapes.now) after (views (drop (c.loop-i.i + 1) a.parts.now))) (sym c.loop-i.invariant.scope) in
    record {
      scope = c.in_ok-case_at.ensures.scope ∙ c.loop-i.invariant.scope;
      left = whole ∙ after_ok _ _ _ _ c.in_ok-case_at.ensures.ok refl;
    }

pub case_of-returns-in_default-clause-refused : goal.case_of-returns-in_default-clause-refused
case_of-returns-in_default-clause-refused t c =
    let a = c.args in
    let d = tables_in a.tables.now in
    subst (λ e. IfRefusal e (λ r. case_at d a.scope.now.items (map shape_in a.shapes.now) (cases_in a.cases.now) (list a.place (views a.parts.now)) ≡ Err r)) (sym c.refusal.ensures)
    (elim c.in_default.branch [
      | case_of-in_default-via-then-parts-lt2 w ↦ case_few d a.scope.now.items (map shape_in a.shapes.now) (cases_in a.cases.now) a.place a.parts.now (search rules)
      | case_of-in_default-via-else-parts-lt2+else-parts-lt3 w ↦ case_many d a.scope.now.items (map shape_in a.shapes.now) (cases_in a.cases.now) a.place a.parts.now (search rules)
    ])
