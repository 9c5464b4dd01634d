use Rattle.std.proofs.Common.{◌≡◌, sym, subst, map, Ok, Err, IfOk, IfErr}
use Rattle.qk_syntax.specs.Refusals.{IfRefusal}
use Rattle.qk_generators.specs.Drawing.{of_values, choose, elements, pure}
use Rattle.qk_generators.specs.DrawingView.{values_in, drawn_in}
use Rattle.qk_typing.specs.TablesView.{typed_in}
use Rattle.qk_typing.proofs.Applying.{ok_there, err_there}
use Rattle.qk_generators.proofs.drawing.of_values.Goals as goal

pub returns-in-Choose-clause-ok : goal.returns-in-Choose-clause-ok
returns-in-Choose-clause-ok c =
    let a = c.args in
    subst (λ o. IfOk c.choose.result (λ g. of_values a.headers.now a.place (values_in o) (map typed_in a.parts.items) ≡ Ok (drawn_in g))) (sym c.in-Choose.is)
    (ok_there c.choose.result (λ g h. of_values h a.place choose (map typed_in a.parts.items) ≡ Ok (drawn_in g)) a.headers.now c.choose.ensures.ok)

pub returns-in-Choose-clause-refused : goal.returns-in-Choose-clause-refused
returns-in-Choose-clause-refused c =
    let a = c.args in
    subst (λ o. IfErr c.choose.result (λ e. IfRefusal e (λ r. of_values a.headers.now a.place (values_in o) (map typed_in a.parts.items) ≡ Err r))) (sym c.in-Choose.is)
    (err_there c.choose.result (λ r h. of_values h a.place choose (map typed_in a.parts.items) ≡ Err r) a.headers.now c.choose.ensures.refused)

pub returns-in-Elements-clause-ok : goal.returns-in-Elements-clause-ok
returns-in-Elements-clause-ok c =
    let a = c.args in
    subst (λ o. IfOk c.elements.result (λ g. of_values a.headers.now a.place (values_in o) (map typed_in a.parts.items) ≡ Ok (drawn_in g))) (sym c.in-Elements.is)
    (ok_there c.elements.result (λ g h. of_values h a.place elements (map typed_in a.parts.items) ≡ Ok (drawn_in g)) a.headers.now c.elements.ensures.ok)

pub returns-in-Elements-clause-refused : goal.returns-in-Elements-clause-refused
returns-in-Elements-clause-refused c =
    let a = c.args in
    subst (λ o. IfErr c.elements.result (λ e. IfRefusal e (λ r. of_values a.headers.now a.place (values_in o) (map typed_in a.parts.items) ≡ Err r))) (sym c.in-Elements.is)
    (err_there c.elements.result (λ r h. of_values h a.place elements (map typed_in a.parts.items) ≡ Err r) a.headers.now c.elements.ensures.refused)

pub returns-in-Pure-clause-ok : goal.returns-in-Pure-clause-ok
returns-in-Pure-clause-ok c =
    let a = c.args in
    subst (λ o. IfOk c.pure.result (λ g. of_values a.headers.now a.place (values_in o) (map typed_in a.parts.items) ≡ Ok (drawn_in g))) (sym c.in-Pure.is)
    (ok_there c.pure.result (λ g h. of_values h a.place pure (map typed_in a.parts.items) ≡ Ok (drawn_in g)) a.headers.now c.pure.ensures.ok)

pub returns-in-Pure-clause-refused : goal.returns-in-Pure-clause-refused
returns-in-Pure-clause-refused c =
    let a = c.args in
    subst (λ o. IfErr c.pure.result (λ e. IfRefusal e (λ r. of_values a.headers.now a.place (values_in o) (map typed_in a.parts.items) ≡ Err r))) (sym c.in-Pure.is)
    (err_there c.pure.result (λ r h. of_values h a.place pure (map typed_in a.parts.items) ≡ Err r) a.headers.now c.pure.ensures.refused)
