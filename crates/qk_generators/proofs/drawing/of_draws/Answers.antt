use Rattle.std.proofs.Common.{◌≡◌, sym, subst, map, Ok, Err, IfOk, IfErr}
use Rattle.qk_syntax.specs.Refusals.{IfRefusal}
use Rattle.qk_generators.specs.Drawing.{of_draws, list, pair, one_of}
use Rattle.qk_generators.specs.DrawingView.{draws_in, drawn_in}
use Rattle.qk_typing.proofs.Applying.{ok_there, err_there}
use Rattle.qk_generators.proofs.drawing.of_draws.Goals as goal

pub returns-in-List-clause-ok : goal.returns-in-List-clause-ok
returns-in-List-clause-ok c =
    let a = c.args in
    subst (λ o. IfOk c.list_drawn.result (λ g. of_draws a.headers.now a.place (draws_in o) (map drawn_in a.parts.items) ≡ Ok (drawn_in g))) (sym c.in-List.is)
    (ok_there c.list_drawn.result (λ g h. of_draws h a.place list (map drawn_in a.parts.items) ≡ Ok (drawn_in g)) a.headers.now c.list_drawn.ensures.ok)

pub returns-in-List-clause-refused : goal.returns-in-List-clause-refused
returns-in-List-clause-refused c =
    let a = c.args in
    subst (λ o. IfErr c.list_drawn.result (λ e. IfRefusal e (λ r. of_draws a.headers.now a.place (draws_in o) (map drawn_in a.parts.items) ≡ Err r))) (sym c.in-List.is)
    (err_there c.list_drawn.result (λ r h. of_draws h a.place list (map drawn_in a.parts.items) ≡ Err r) a.headers.now c.list_drawn.ensures.refused)

pub returns-in-Pair-clause-ok : goal.returns-in-Pair-clause-ok
returns-in-Pair-clause-ok c =
    let a = c.args in
    subst (λ o. IfOk c.pair_drawn.result (λ g. of_draws a.headers.now a.place (draws_in o) (map drawn_in a.parts.items) ≡ Ok (drawn_in g))) (sym c.in-Pair.is)
    (ok_there c.pair_drawn.result (λ g h. of_draws h a.place pair (map drawn_in a.parts.items) ≡ Ok (drawn_in g)) a.headers.now c.pair_drawn.ensures.ok)

pub returns-in-Pair-clause-refused : goal.returns-in-Pair-clause-refused
returns-in-Pair-clause-refused c =
    let a = c.args in
    subst (λ o. IfErr c.pair_drawn.result (λ e. IfRefusal e (λ r. of_draws a.headers.now a.place (draws_in o) (map drawn_in a.parts.items) ≡ Err r))) (sym c.in-Pair.is)
    (err_there c.pair_drawn.result (λ r h. of_draws h a.place pair (map drawn_in a.parts.items) ≡ Err r) a.headers.now c.pair_drawn.ensures.refused)

pub returns-in-OneOf-clause-ok : goal.returns-in-OneOf-clause-ok
returns-in-OneOf-clause-ok c =
    let a = c.args in
    subst (λ o. IfOk c.one_of.result (λ g. of_draws a.headers.now a.place (draws_in o) (map drawn_in a.parts.items) ≡ Ok (drawn_in g))) (sym c.in-OneOf.is)
    (ok_there c.one_of.result (λ g h. of_draws h a.place one_of (map drawn_in a.parts.items) ≡ Ok (drawn_in g)) a.headers.now c.one_of.ensures.ok)

pub returns-in-OneOf-clause-refused : goal.returns-in-OneOf-clause-refused
returns-in-OneOf-clause-refused c =
    let a = c.args in
    subst (λ o. IfErr c.one_of.result (λ e. IfRefusal e (λ r. of_draws a.headers.now a.place (draws_in o) (map drawn_in a.parts.items) ≡ Err r))) (sym c.in-OneOf.is)
    (err_there c.one_of.result (λ r h. of_draws h a.place one_of (map drawn_in a.parts.items) ≡ Err r) a.headers.now c.one_of.ensures.refused)
