use Rattle.std.proofs.Common.{◌≡◌, sym, subst, map, Ok, Err, IfOk, IfErr}
use Rattle.qk_syntax.specs.Refusals.{IfRefusal}
use Rattle.qk_typing.specs.Operators.{applied, choice, unary, binary}
use Rattle.qk_typing.specs.PartsView.{operator_in}
use Rattle.qk_typing.specs.TablesView.{typed_in}
use Rattle.qk_typing.proofs.Applying.{ok_there, err_there}
use Rattle.qk_typing.proofs.operators.applied.Goals as goal

pub returns-in-Choice-clause-ok : goal.returns-in-Choice-clause-ok
returns-in-Choice-clause-ok c =
    let a = c.args in
    subst (λ o. IfOk c.choice_of.result (λ e. applied a.headers.now a.place (operator_in o) (map typed_in a.parts.items) ≡ Ok (typed_in e))) (sym c.in-Choice.is)
    (ok_there c.choice_of.result (λ e h. applied h a.place choice (map typed_in a.parts.items) ≡ Ok (typed_in e)) a.headers.now c.choice_of.ensures.ok)

pub returns-in-Choice-clause-refused : goal.returns-in-Choice-clause-refused
returns-in-Choice-clause-refused c =
    let a = c.args in
    subst (λ o. IfErr c.choice_of.result (λ e. IfRefusal e (λ r. applied a.headers.now a.place (operator_in o) (map typed_in a.parts.items) ≡ Err r))) (sym c.in-Choice.is)
    (err_there c.choice_of.result (λ r h. applied h a.place choice (map typed_in a.parts.items) ≡ Err r) a.headers.now c.choice_of.ensures.refused)

pub returns-in-Unary-clause-ok : goal.returns-in-Unary-clause-ok
returns-in-Unary-clause-ok c =
    let a = c.args in
    subst (λ o. IfOk c.unary.result (λ e. applied a.headers.now a.place (operator_in o) (map typed_in a.parts.items) ≡ Ok (typed_in e))) (sym c.in-Unary.is)
    (ok_there c.unary.result (λ e h. applied h a.place (unary c.in-Unary.op) (map typed_in a.parts.items) ≡ Ok (typed_in e)) a.headers.now c.unary.ensures.ok)

pub returns-in-Unary-clause-refused : goal.returns-in-Unary-clause-refused
returns-in-Unary-clause-refused c =
    let a = c.args in
    subst (λ o. IfErr c.unary.result (λ e. IfRefusal e (λ r. applied a.headers.now a.place (operator_in o) (map typed_in a.parts.items) ≡ Err r))) (sym c.in-Unary.is)
    (err_there c.unary.result (λ r h. applied h a.place (unary c.in-Unary.op) (map typed_in a.parts.items) ≡ Err r) a.headers.now c.unary.ensures.refused)

pub returns-in-Binary-clause-ok : goal.returns-in-Binary-clause-ok
returns-in-Binary-clause-ok c =
    let a = c.args in
    subst (λ o. IfOk c.binary.result (λ e. applied a.headers.now a.place (operator_in o) (map typed_in a.parts.items) ≡ Ok (typed_in e))) (sym c.in-Binary.is)
    (ok_there c.binary.result (λ e h. applied h a.place (binary c.in-Binary.op) (map typed_in a.parts.items) ≡ Ok (typed_in e)) a.headers.now c.binary.ensures.ok)

pub returns-in-Binary-clause-refused : goal.returns-in-Binary-clause-refused
returns-in-Binary-clause-refused c =
    let a = c.args in
    subst (λ o. IfErr c.binary.result (λ e. IfRefusal e (λ r. applied a.headers.now a.place (operator_in o) (map typed_in a.parts.items) ≡ Err r))) (sym c.in-Binary.is)
    (err_there c.binary.result (λ r h. applied h a.place (binary c.in-Binary.op) (map typed_in a.parts.items) ≡ Err r) a.headers.now c.binary.ensures.refused)
