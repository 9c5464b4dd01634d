use Rattle.std.proofs.Common.{◌≡◌, ◌∙◌, sym, ap, subst, map, length, nat_eq, true, false, not, Err, arith}
use Rattle.std.proofs.lemmas.List.{length-map}
use Rattle.std.specs.List.{list_any}
use Rattle.std.specs.Str.{bytes_eq}
use Rattle.qk_syntax.specs.PlainTrees.{count}
use Rattle.qk_syntax.specs.Refusals.{IfRefusal}
use Rattle.qk_syntax.specs.View.{views}
use Rattle.qk_expressions.specs.CaseSteps.{headed_shape}
use Rattle.qk_names.specs.NameTable.{names_in}
use Rattle.qk_expressions.specs.CasesView.{shape_in, cases_in}
use Rattle.qk_typing.specs.PartsView.{words_in}
use Rattle.qk_value.specs.View.{view_type}
use Rattle.qk_names.proofs.Sequencing.{after_ok, fails, passes, as_many, other_count}
use Rattle.qk_expressions.proofs.patterns.headed_shape.Goals as goal

pub returns-then-variables-len-clause-refused : goal.returns-then-variables-len-clause-refused
returns-then-variables-len-clause-refused c =
    let a = c.args in
    let fields = c.in_ok-shape.shape.now.fields.items in
    let other : nat_eq (count (views a.variables.now)) (length (map view_type fields)) ≡ false =
    other_count a.variables.now _ (omega (arith, length-map fields view_type))
    in
    subst (λ e. IfRefusal e (λ r. headed_shape (names_in a.names.now) (map shape_in a.shapes.now) (cases_in a.before.now) a.place a.at a.word.now (views a.variables.now) ≡ Err r))
    (sym c.refusal.ensures)
    (after_ok _ _ _ _ c.in_ok-shape.ensures.ok (fails _ _ _ _ other))

pub returns-then-is_among-clause-refused : goal.returns-then-is_among-clause-refused
returns-then-is_among-clause-refused c =
    let a = c.args in
    let fields = c.in_ok-shape.shape.now.fields.items in
    let same : nat_eq (count (views a.variables.now)) (length (map view_type fields)) ≡ true =
    as_many a.variables.now _ (omega (arith, length-map fields view_type))
    in
    let among : list_any (bytes_eq a.word.now) (words_in a.before.now.heads.items) ≡ true =
    sym (c.is_among.ensures ∙ ap (λ x. list_any (bytes_eq a.word.now) (words_in x)) c.as_slice.ensures) ∙ c.if-is_among.true
    in
    subst (λ e. IfRefusal e (λ r. headed_shape (names_in a.names.now) (map shape_in a.shapes.now) (cases_in a.before.now) a.place a.at a.word.now (views a.variables.now) ≡ Err r))
    (sym c.refusal-then-is_among.ensures)
    (after_ok _ _ _ _ c.in_ok-shape.ensures.ok (passes _ _ _ _ same ∙ fails _ _ _ _ (ap not among)))

pub returns-clause-ok : goal.returns-clause-ok
returns-clause-ok c =
    let a = c.args in
    let fields = c.in_ok-shape.shape.now.fields.items in
    let same : nat_eq (count (views a.variables.now)) (length (map view_type fields)) ≡ true =
    as_many a.variables.now _ (omega (arith, length-map fields view_type))
    in
    let among : list_any (bytes_eq a.word.now) (words_in a.before.now.heads.items) ≡ false =
    sym (c.is_among.ensures ∙ ap (λ x. list_any (bytes_eq a.word.now) (words_in x)) c.as_slice.ensures) ∙ c.if-is_among.false
    in
    after_ok _ _ _ _ c.in_ok-shape.ensures.ok (passes _ _ _ _ same ∙ passes _ _ _ _ (ap not among))
