use Rattle.std.proofs.Common.{rules, ◌≡◌, ◌∙◌, ◌+◌, sym, ap, subst, map, take, drop, Ok, Err, IfOk, IfErr, [], ◌∷◌, ◌++◌, refl}
use Rattle.qk_syntax.specs.PlainTrees.{list}
use Rattle.qk_syntax.specs.Refusals.{IfRefusal}
use Rattle.qk_syntax.specs.View.{view, views}
use Rattle.qk_value.specs.View.{view_type}
use Rattle.qk_names.specs.Checks.{◌>>=◌}
use Rattle.qk_generators.specs.Drawing.{values, draws, sized, frequency, bind, of_sized}
use Rattle.qk_generators.specs.DrawingView.{values_in, draws_in, sized_in, gen_form_in, part_in, drawn_in}
use Rattle.qk_generators.specs.GenSteps.{bind_body, part_at}
use Rattle.qk_generators.specs.Generators.{generator, generators, sized_at, bind_at, parts_at}
use Rattle.qk_typing.specs.TablesView.{tables_in, typed_in}
use Rattle.qk_headers.specs.TypesOf.{parts_after}
use Rattle.qk_expressions.proofs.CaseLaws.{two_trees}
use Rattle.qk_expressions.proofs.ExpressionForms.{three_parts, after_one}
use Rattle.qk_generators.proofs.GeneratorForms.{of_gen_form, sized_few, sized_many, bind_few, bind_many, part_few, part_many, next_part, mapped}
use Rattle.qk_typing.proofs.ScopeLaws.{unbound}
use Rattle.qk_names.proofs.Sequencing.{after_ok, then_ok}
use Rattle.qk_headers.proofs.TypeForms.{two_parts}
use Rattle.qk_generators.proofs.generators.+generators.Goals as goal
use Rattle.qk_generators.proofs.generators.+generators.Goals.{sized_at-in_default-via-then-parts-lt3, sized_at-in_default-via-else-parts-lt3+else-parts-lt4, bind_at-in_default-via-then-parts-lt4, bind_at-in_default-via-else-parts-lt4+else-parts-lt5, part_of-in_default-via-then-parts-lt2, part_of-in_default-via-else-parts-lt2+else-parts-lt3}

pub headed_gen-returns-in-Values-clause-ok : goal.headed_gen-returns-in-Values-clause-ok
headed_gen-returns-in-Values-clause-ok t c =
    let a = c.args in
    let head = c.in_ok-form.ensures.ok ∙ ap (λ f. Ok (gen_form_in f)) c.in-Values.is in
    let whole = of_gen_form (tables_in a.tables.now) a.scope.now.items a.place a.parts.now c.head-item.result (values (values_in c.in-Values.form)) c.in-len1-up.len_at_least c.head-item.is head in
    subst (λ x. IfOk c.values_at.result (λ g. x ≡ Ok (drawn_in g))) (sym whole) c.values_at.ensures.ok

pub headed_gen-returns-in-Values-clause-refused : goal.headed_gen-returns-in-Values-clause-refused
headed_gen-returns-in-Values-clause-refused t c =
    let a = c.args in
    let head = c.in_ok-form.ensures.ok ∙ ap (λ f. Ok (gen_form_in f)) c.in-Values.is in
    let whole = of_gen_form (tables_in a.tables.now) a.scope.now.items a.place a.parts.now c.head-item.result (values (values_in c.in-Values.form)) c.in-len1-up.len_at_least c.head-item.is head in
    subst (λ x. IfErr c.values_at.result (λ e. IfRefusal e (λ r. x ≡ Err r))) (sym whole) c.values_at.ensures.refused

pub headed_gen-returns-in-Draws-clause-ok : goal.headed_gen-returns-in-Draws-clause-ok
headed_gen-returns-in-Draws-clause-ok t c =
    let a = c.args in
    let head = c.in_ok-form.ensures.ok ∙ ap (λ f. Ok (gen_form_in f)) c.in-Draws.is in
    let whole = of_gen_form (tables_in a.tables.now) a.scope.now.items a.place a.parts.now c.head-item.result (draws (draws_in c.in-Draws.form)) c.in-len1-up.len_at_least c.head-item.is head in
    subst (λ x. IfOk c.draws_at.result (λ g. x ≡ Ok (drawn_in g))) (sym whole) c.draws_at.ensures.ok

pub headed_gen-returns-in-Draws-clause-refused : goal.headed_gen-returns-in-Draws-clause-refused
headed_gen-returns-in-Draws-clause-refused t c =
    let a = c.args in
    let head = c.in_ok-form.ensures.ok ∙ ap (λ f. Ok (gen_form_in f)) c.in-Draws.is in
    let whole = of_gen_form (tables_in a.tables.now) a.scope.now.items a.place a.parts.now c.head-item.result (draws (draws_in c.in-Draws.form)) c.in-len1-up.len_at_least c.head-item.is head in
    subst (λ x. IfErr c.draws_at.result (λ e. IfRefusal e (λ r. x ≡ Err r))) (sym whole) c.draws_at.ensures.refused

pub headed_gen-returns-in-Sized-clause-ok : goal.headed_gen-returns-in-Sized-clause-ok
headed_gen-returns-in-Sized-clause-ok t c =
    let a = c.args in
    let head = c.in_ok-form.ensures.ok ∙ ap (λ f. Ok (gen_form_in f)) c.in-Sized.is in
    let whole = of_gen_form (tables_in a.tables.now) a.scope.now.items a.place a.parts.now c.head-item.result (sized (sized_in c.in-Sized.form)) c.in-len1-up.len_at_least c.head-item.is head in
    subst (λ x. IfOk c.sized_at.result (λ g. x ≡ Ok (drawn_in g))) (sym whole) c.sized_at.ensures.ok

pub headed_gen-returns-in-Sized-clause-refused : goal.headed_gen-returns-in-Sized-clause-refused
headed_gen-returns-in-Sized-clause-refused t c =
    let a = c.args in
    let head = c.in_ok-form.ensures.ok ∙ ap (λ f. Ok (gen_form_in f)) c.in-Sized.is in
    let whole = of_gen_form (tables_in a.tables.now) a.scope.now.items a.place a.parts.now c.head-item.result (sized (sized_in c.in-Sized.form)) c.in-len1-up.len_at_least c.head-item.is head in
    subst (λ x. IfErr c.sized_at.result (λ e. IfRefusal e (λ r. x ≡ Err r))) (sym whole) c.sized_at.ensures.refused

pub headed_gen-returns-in-Bind-clause-ok : goal.headed_gen-returns-in-Bind-clause-ok
headed_gen-returns-in-Bind-clause-ok t c =
    let a = c.args in
    let head = c.in_ok-form.ensures.ok ∙ ap (λ f. Ok (gen_form_in f)) c.in-Bind.is in
    let whole = of_gen_form (tables_in a.tables.now) a.scope.now.items a.place a.parts.now c.head-item.result bind c.in-len1-up.len_at_least c.head-item.is head in
    subst (λ x. IfOk c.bind_at.result (λ g. x ≡ Ok (drawn_in g))) (sym whole) c.bind_at.ensures.ok

pub headed_gen-returns-in-Bind-clause-refused : goal.headed_gen-returns-in-Bind-clause-refused
headed_gen-returns-in-Bind-clause-refused t c =
    let a = c.args in
    let head = c.in_ok-form.ensures.ok ∙ ap (λ f. Ok (gen_form_in f)) c.in-Bind.is in
    let whole = of_gen_form (tables_in a.tables.now) a.scope.now.items a.place a.parts.now c.head-item.result bind c.in-len1-up.len_at_least c.head-item.is head in
    subst (λ x. IfErr c.bind_at.result (λ e. IfRefusal e (λ r. x ≡ Err r))) (sym whole) c.bind_at.ensures.refused

pub headed_gen-returns-in-Frequency-clause-ok : goal.headed_gen-returns-in-Frequency-clause-ok
headed_gen-returns-in-Frequency-clause-ok t c =
    let a = c.args in
    let head = c.in_ok-form.ensures.ok ∙ ap (λ f. Ok (gen_form_in f)) c.in-Frequency.is in
    let whole = of_gen_form (tables_in a.tables.now) a.scope.now.items a.place a.parts.now c.head-item.result frequency c.in-len1-up.len_at_least c.head-item.is head in
    subst (λ x. IfOk c.frequency_at.result (λ g. x ≡ Ok (drawn_in g))) (sym whole) c.frequency_at.ensures.ok

pub headed_gen-returns-in-Frequency-clause-refused : goal.headed_gen-returns-in-Frequency-clause-refused
headed_gen-returns-in-Frequency-clause-refused t c =
    let a = c.args in
    let head = c.in_ok-form.ensures.ok ∙ ap (λ f. Ok (gen_form_in f)) c.in-Frequency.is in
    let whole = of_gen_form (tables_in a.tables.now) a.scope.now.items a.place a.parts.now c.head-item.result frequency c.in-len1-up.len_at_least c.head-item.is head in
    subst (λ x. IfErr c.frequency_at.result (λ e. IfRefusal e (λ r. x ≡ Err r))) (sym whole) c.frequency_at.ensures.refused

pub draws_at-returns-in_err-parts-clause-refused : goal.draws_at-returns-in_err-parts-clause-refused
draws_at-returns-in_err-parts-clause-refused t c =
    subst (λ x. IfErr c.from_residual-in_err-parts.result (λ e. IfRefusal e (λ r. x ≡ Err r))) (sym (then_ok _ _ _ c.in_ok-check_draws.ensures.ok)) (search rules)

pub draws_at-returns-clause-ok : goal.draws_at-returns-clause-ok
draws_at-returns-clause-ok t c =
    subst (λ x. IfOk c.of_draws.result (λ g. x ≡ Ok (drawn_in g))) (sym (then_ok _ _ _ c.in_ok-check_draws.ensures.ok ∙ after_ok _ _ _ _ c.in_ok-parts.ensures.ok refl)) c.of_draws.ensures.ok

pub draws_at-returns-clause-refused : goal.draws_at-returns-clause-refused
draws_at-returns-clause-refused t c =
    subst (λ x. IfErr c.of_draws.result (λ e. IfRefusal e (λ r. x ≡ Err r))) (sym (then_ok _ _ _ c.in_ok-check_draws.ensures.ok ∙ after_ok _ _ _ _ c.in_ok-parts.ensures.ok refl))
    c.of_draws.ensures.refused

pub frequency_at-returns-in_err-parts-clause-refused : goal.frequency_at-returns-in_err-parts-clause-refused
frequency_at-returns-in_err-parts-clause-refused t c =
    subst (λ x. IfErr c.from_residual-in_err-parts.result (λ e. IfRefusal e (λ r. x ≡ Err r))) (sym (then_ok _ _ _ c.in_ok-check_some.ensures.ok)) (search rules)

pub frequency_at-returns-clause-ok : goal.frequency_at-returns-clause-ok
frequency_at-returns-clause-ok t c =
    subst (λ x. IfOk c.of_parts.result (λ g. x ≡ Ok (drawn_in g))) (sym (then_ok _ _ _ c.in_ok-check_some.ensures.ok ∙ after_ok _ _ _ _ c.in_ok-parts.ensures.ok refl)) c.of_parts.ensures.ok

pub frequency_at-returns-clause-refused : goal.frequency_at-returns-clause-refused
frequency_at-returns-clause-refused t c =
    subst (λ x. IfErr c.of_parts.result (λ e. IfRefusal e (λ r. x ≡ Err r))) (sym (then_ok _ _ _ c.in_ok-check_some.ensures.ok ∙ after_ok _ _ _ _ c.in_ok-parts.ensures.ok refl))
    c.of_parts.ensures.refused

pub drawn_parts-loop-i-init : goal.drawn_parts-loop-i-init
drawn_parts-loop-i-init t c = record {
  scope = refl;
  left = ap (generators (tables_in c.args.tables.now) c.args.scope.now.items []) (after_one c.args.parts.now) ∙ ap (λ xs. generators (tables_in c.args.tables.now) c.args.scope.now.items (map drawn_in xs) (views (drop 1 c.args.parts.now))) (sym c.make-seen.ensures);
}

pub weighed_parts-loop-i-init : goal.weighed_parts-loop-i-init
weighed_parts-loop-i-init t c = record {
  scope = refl;
  left = ap (parts_at (tables_in c.args.tables.now) c.args.scope.now.items []) (after_one c.args.parts.now) ∙ ap (λ xs. parts_at (tables_in c.args.tables.now) c.args.scope.now.items (map part_in xs) (views (drop 1 c.args.parts.now))) (sym c.make-seen.ensures);
}

pub sized_at-returns-in_default-clause-refused : goal.sized_at-returns-in_default-clause-refused
sized_at-returns-in_default-clause-refused t c =
    let a = c.args in
    let d = tables_in a.tables.now in
    let s = a.scope.now.items in
    subst (λ e. IfRefusal e (λ r. sized_at d s a.place (sized_in a.form) (parts_after (views a.parts.now)) ≡ Err r)) (sym c.refusal.ensures)
    (elim c.in_default.branch [
      | sized_at-in_default-via-then-parts-lt3 w ↦ sized_few d s a.place (sized_in a.form) a.parts.now (search rules)
      | sized_at-in_default-via-else-parts-lt3+else-parts-lt4 w ↦ sized_many d s a.place (sized_in a.form) a.parts.now (search rules)
    ])

pub sized_at-returns-in_err-size-clause-refused : goal.sized_at-returns-in_err-size-clause-refused
sized_at-returns-in_err-size-clause-refused t c =
    let a = c.args in
    let d = tables_in a.tables.now in
    let shape = two_parts a.parts.now c.size-item.result c.body-item.result c.in-len3.len_at_least c.in-len3.len_below c.size-item.is c.body-item.is in
    subst (λ ts. IfErr c.from_residual.result (λ e. IfRefusal e (λ r. sized_at d a.scope.now.items a.place (sized_in a.form) ts ≡ Err r))) (sym shape) (search rules)

pub sized_at-returns-in_err-body-clause-refused : goal.sized_at-returns-in_err-body-clause-refused
sized_at-returns-in_err-body-clause-refused t c =
    let a = c.args in
    let d = tables_in a.tables.now in
    let shape = two_parts a.parts.now c.size-item.result c.body-item.result c.in-len3.len_at_least c.in-len3.len_below c.size-item.is c.body-item.is in
    let sizes = ap (sized_at d a.scope.now.items a.place (sized_in a.form)) shape ∙ after_ok _ _ _ _ c.in_ok-size.ensures.ok refl in
    let whole = sizes ∙ ap (λ s. generator d s (view c.body-item.result) >>= λ g. of_sized a.place (sized_in a.form) (typed_in c.in_ok-size.size) g) (sym c.in_ok-size.ensures.scope) in
    subst (λ x. IfErr c.from_residual-in_err-body.result (λ e. IfRefusal e (λ r. x ≡ Err r))) (sym whole) (search rules)

pub sized_at-returns-clause-ok : goal.sized_at-returns-clause-ok
sized_at-returns-clause-ok t c =
    let a = c.args in
    let d = tables_in a.tables.now in
    let shape = two_parts a.parts.now c.size-item.result c.body-item.result c.in-len3.len_at_least c.in-len3.len_below c.size-item.is c.body-item.is in
    let sizes = ap (sized_at d a.scope.now.items a.place (sized_in a.form)) shape ∙ after_ok _ _ _ _ c.in_ok-size.ensures.ok refl in
    let whole = sizes ∙ ap (λ s. generator d s (view c.body-item.result) >>= λ g. of_sized a.place (sized_in a.form) (typed_in c.in_ok-size.size) g) (sym c.in_ok-size.ensures.scope) in
    subst (λ x. IfOk c.of_sized.result (λ g. x ≡ Ok (drawn_in g))) (sym (whole ∙ after_ok _ _ _ _ c.in_ok-body.ensures.ok refl)) c.of_sized.ensures.ok

pub sized_at-returns-clause-refused : goal.sized_at-returns-clause-refused
sized_at-returns-clause-refused t c =
    let a = c.args in
    let d = tables_in a.tables.now in
    let shape = two_parts a.parts.now c.size-item.result c.body-item.result c.in-len3.len_at_least c.in-len3.len_below c.size-item.is c.body-item.is in
    let sizes = ap (sized_at d a.scope.now.items a.place (sized_in a.form)) shape ∙ after_ok _ _ _ _ c.in_ok-size.ensures.ok refl in
    let whole = sizes ∙ ap (λ s. generator d s (view c.body-item.result) >>= λ g. of_sized a.place (sized_in a.form) (typed_in c.in_ok-size.size) g) (sym c.in_ok-size.ensures.scope) in
    subst (λ x. IfErr c.of_sized.result (λ e. IfRefusal e (λ r. x ≡ Err r))) (sym (whole ∙ after_ok _ _ _ _ c.in_ok-body.ensures.ok refl)) c.of_sized.ensures.refused

pub bind_at-returns-in_default-clause-refused : goal.bind_at-returns-in_default-clause-refused
bind_at-returns-in_default-clause-refused t c =
    let d = tables_in c.args.tables.now in
    let s = c.args.scope.now.items in
    subst (λ e. IfRefusal e (λ r. bind_at d s c.args.place (parts_after (views c.args.parts.now)) ≡ Err r)) (sym c.refusal.ensures)
    (elim c.in_default.branch [
      | bind_at-in_default-via-then-parts-lt4 w ↦ bind_few d s c.args.place c.args.parts.now (search rules)
      | bind_at-in_default-via-else-parts-lt4+else-parts-lt5 w ↦ bind_many d s c.args.place c.args.parts.now (search rules)
    ])

pub bind_at-returns-in_err-name-clause-refused : goal.bind_at-returns-in_err-name-clause-refused
bind_at-returns-in_err-name-clause-refused t c =
    let a = c.args in
    let d = tables_in a.tables.now in
    let shape = three_parts a.parts.now c.variable-item.result c.first-item.result c.body-item.result c.in-len4.len_at_least c.in-len4.len_below c.variable-item.is c.first-item.is c.body-item.is in
    subst (λ ts. IfErr c.from_residual.result (λ e. IfRefusal e (λ r. bind_at d a.scope.now.items a.place ts ≡ Err r))) (sym shape) (search rules)

pub bind_at-returns-in_err-first-clause-refused : goal.bind_at-returns-in_err-first-clause-refused
bind_at-returns-in_err-first-clause-refused t c =
    let a = c.args in
    let d = tables_in a.tables.now in
    let shape = three_parts a.parts.now c.variable-item.result c.first-item.result c.body-item.result c.in-len4.len_at_least c.in-len4.len_below c.variable-item.is c.first-item.is c.body-item.is in
    let named = ap (bind_at d a.scope.now.items a.place) shape ∙ after_ok _ _ _ _ c.in_ok-name.ensures.ok refl in
    subst (λ x. IfErr c.from_residual-in_err-first.result (λ e. IfRefusal e (λ r. x ≡ Err r))) (sym named) (search rules)

pub bind_at-returns-clause-ok : goal.bind_at-returns-clause-ok
bind_at-returns-clause-ok t c =
    let a = c.args in
    let d = tables_in a.tables.now in
    let shape = three_parts a.parts.now c.variable-item.result c.first-item.result c.body-item.result c.in-len4.len_at_least c.in-len4.len_below c.variable-item.is c.first-item.is c.body-item.is in
    let named = ap (bind_at d a.scope.now.items a.place) shape ∙ after_ok _ _ _ _ c.in_ok-name.ensures.ok (after_ok _ _ _ _ c.in_ok-first.ensures.ok refl) in
    let whole = named ∙ ap (λ s. bind_body d s a.place c.in_ok-name.name.items (drawn_in c.in_ok-first.first) (view c.body-item.result)) (sym c.in_ok-first.ensures.scope) in
    subst (λ x. IfOk c.bind_body.result (λ g. x ≡ Ok (drawn_in g))) (sym whole) c.bind_body.ensures.ok

pub bind_at-returns-clause-refused : goal.bind_at-returns-clause-refused
bind_at-returns-clause-refused t c =
    let a = c.args in
    let d = tables_in a.tables.now in
    let shape = three_parts a.parts.now c.variable-item.result c.first-item.result c.body-item.result c.in-len4.len_at_least c.in-len4.len_below c.variable-item.is c.first-item.is c.body-item.is in
    let named = ap (bind_at d a.scope.now.items a.place) shape ∙ after_ok _ _ _ _ c.in_ok-name.ensures.ok (after_ok _ _ _ _ c.in_ok-first.ensures.ok refl) in
    let whole = named ∙ ap (λ s. bind_body d s a.place c.in_ok-name.name.items (drawn_in c.in_ok-first.first) (view c.body-item.result)) (sym c.in_ok-first.ensures.scope) in
    subst (λ x. IfErr c.bind_body.result (λ e. IfRefusal e (λ r. x ≡ Err r))) (sym whole) c.bind_body.ensures.refused

pub bind_body-returns-clause-scope : goal.bind_body-returns-clause-scope
bind_body-returns-clause-scope t c =
    let a = c.args in
    unbound a.scope.now.items _ (c.as_slice.result.now ∷ []) (view_type a.first.ty ∷ [])
    (c.unbind.ensures ∙ (λ i. take (c.len-seen.ensures i) ((c.in_ok-body.ensures.scope ∙ c.in_ok-bind.ensures) i)))

pub weighed_parts-returns-in_err-part_at-clause-refused : goal.weighed_parts-returns-in_err-part_at-clause-refused
weighed_parts-returns-in_err-part_at-clause-refused t c =
    let a = c.args in
    let d = tables_in a.tables.now in
    let parts = map part_in c.loop-i.seen.items in
    let next = next_part d a.scope.now.items parts a.parts.now c.loop-i.i c.index-parts-i.result (search rules) c.index-parts-i.is _ c.loop-i.invariant.left in
    let whole = next ∙ ap (λ s. part_at d s (view c.index-parts-i.result) >>= λ part. parts_at d a.scope.now.items (parts ++ part ∷ []) (views (drop (c.loop-i.i + 1) a.parts.now))) (sym c.loop-i.invariant.scope) in
    subst (λ x. IfErr c.from_residual.result (λ e. IfRefusal e (λ r. x ≡ Err r))) (sym whole) (search rules)

pub weighed_parts-loop-i-preserved : goal.weighed_parts-loop-i-preserved
weighed_parts-loop-i-preserved t c =
    let a = c.args in
    let d = tables_in a.tables.now in
    let parts = map part_in c.loop-i.seen.items in
    let next = next_part d a.scope.now.items parts a.parts.now c.loop-i.i c.index-parts-i.result (search rules) c.index-parts-i.is _ c.loop-i.invariant.left in
    let whole = next ∙ ap (λ s. part_at d s (view c.index-parts-i.result) >>= λ part. parts_at d a.scope.now.items (parts ++ part ∷ []) (views (drop (c.loop-i.i + 1) a.parts.now))) (sym c.loop-i.invariant.scope) in
    record {
      scope = c.in_ok-part_at.ensures.scope ∙ c.loop-i.invariant.scope;
      left = whole ∙ after_ok _ _ _ _ c.in_ok-part_at.ensures.ok refl
          ∙ ap (λ xs. parts_at d a.scope.now.items xs (views (drop (c.loop-i.i + 1) a.parts.now))) (mapped part_in c.loop-i.seen.items c.in_ok-part_at.field-0 c.add.new.self.items c.in_ok-add.ensures.ok);
    }

pub part_of-returns-in_default-clause-refused : goal.part_of-returns-in_default-clause-refused
part_of-returns-in_default-clause-refused t c =
    let a = c.args in
    let d = tables_in a.tables.now in
    subst (λ e. IfRefusal e (λ r. part_at d a.scope.now.items (list a.place (views a.parts.now)) ≡ Err r)) (sym c.refusal.ensures)
    (elim c.in_default.branch [
      | part_of-in_default-via-then-parts-lt2 w ↦ part_few d a.scope.now.items a.place a.parts.now (search rules)
      | part_of-in_default-via-else-parts-lt2+else-parts-lt3 w ↦ part_many d a.scope.now.items a.place a.parts.now (search rules)
    ])

pub part_of-returns-in_err-weight-clause-refused : goal.part_of-returns-in_err-weight-clause-refused
part_of-returns-in_err-weight-clause-refused t c =
    let a = c.args in
    let d = tables_in a.tables.now in
    let shape = two_trees a.parts.now c.weight-item.result c.body-item.result c.in-len2.len_at_least c.in-len2.len_below c.weight-item.is c.body-item.is in
    subst (λ ts. IfErr c.from_residual.result (λ e. IfRefusal e (λ r. part_at d a.scope.now.items (list a.place ts) ≡ Err r))) (sym shape) (search rules)

pub part_of-returns-in_err-body-clause-refused : goal.part_of-returns-in_err-body-clause-refused
part_of-returns-in_err-body-clause-refused t c =
    let a = c.args in
    let d = tables_in a.tables.now in
    let shape = two_trees a.parts.now c.weight-item.result c.body-item.result c.in-len2.len_at_least c.in-len2.len_below c.weight-item.is c.body-item.is in
    let weighed = ap (λ ts. part_at d a.scope.now.items (list a.place ts)) shape ∙ after_ok _ _ _ _ c.in_ok-weight.ensures.ok refl in
    subst (λ x. IfErr c.from_residual-in_err-body.result (λ e. IfRefusal e (λ r. x ≡ Err r))) (sym weighed) (search rules)

pub part_of-returns-clause-ok : goal.part_of-returns-clause-ok
part_of-returns-clause-ok t c =
    let a = c.args in
    let d = tables_in a.tables.now in
    let shape = two_trees a.parts.now c.weight-item.result c.body-item.result c.in-len2.len_at_least c.in-len2.len_below c.weight-item.is c.body-item.is in
    ap (λ ts. part_at d a.scope.now.items (list a.place ts)) shape ∙ after_ok _ _ _ _ c.in_ok-weight.ensures.ok (after_ok _ _ _ _ c.in_ok-body.ensures.ok refl)
