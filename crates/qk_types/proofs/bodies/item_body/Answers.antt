use Rattle.std.proofs.Common.{ap, Some}
use Rattle.qk_syntax.specs.View.{views}
use Rattle.qk_types.specs.Bodies.{item_body}
use Rattle.qk_types.specs.DraftView.{draft_in}
use Rattle.qk_typing.specs.TablesView.{tables_in}
use Rattle.qk_names.specs.declared.names.Item.TheVariants as items
use Rattle.qk_names.proofs.Following.{on_ok_at, refused_at}
use Rattle.qk_types.proofs.bodies.item_body.Goals as goal

pub returns-in-Function-clause-ok : goal.returns-in-Function-clause-ok
returns-in-Function-clause-ok c =
    let a = c.args in
    on_ok_at _ (λ w. item_body (tables_in a.tables.now) (draft_in a.tables.now.headers.kinds a.draft.now) a.place w (Some items.Function) (views a.parts.now)) a.word.now
    (ap (λ i. item_body (tables_in a.tables.now) (draft_in a.tables.now.headers.kinds a.draft.now) a.place a.word.now (Some i) (views a.parts.now)) c.in-Function.is) _ _ c.add_function.ensures.ok

pub returns-in-Function-clause-refused : goal.returns-in-Function-clause-refused
returns-in-Function-clause-refused c =
    let a = c.args in
    refused_at _ (λ w. item_body (tables_in a.tables.now) (draft_in a.tables.now.headers.kinds a.draft.now) a.place w (Some items.Function) (views a.parts.now)) a.word.now
    (ap (λ i. item_body (tables_in a.tables.now) (draft_in a.tables.now.headers.kinds a.draft.now) a.place a.word.now (Some i) (views a.parts.now)) c.in-Function.is) _ c.add_function.ensures.refused

pub returns-in-Generator-clause-ok : goal.returns-in-Generator-clause-ok
returns-in-Generator-clause-ok c =
    let a = c.args in
    on_ok_at _ (λ w. item_body (tables_in a.tables.now) (draft_in a.tables.now.headers.kinds a.draft.now) a.place w (Some items.Generator) (views a.parts.now)) a.word.now
    (ap (λ i. item_body (tables_in a.tables.now) (draft_in a.tables.now.headers.kinds a.draft.now) a.place a.word.now (Some i) (views a.parts.now)) c.in-Generator.is) _ _ c.add_generator.ensures.ok

pub returns-in-Generator-clause-refused : goal.returns-in-Generator-clause-refused
returns-in-Generator-clause-refused c =
    let a = c.args in
    refused_at _ (λ w. item_body (tables_in a.tables.now) (draft_in a.tables.now.headers.kinds a.draft.now) a.place w (Some items.Generator) (views a.parts.now)) a.word.now
    (ap (λ i. item_body (tables_in a.tables.now) (draft_in a.tables.now.headers.kinds a.draft.now) a.place a.word.now (Some i) (views a.parts.now)) c.in-Generator.is) _ c.add_generator.ensures.refused

pub returns-in-Model-clause-ok : goal.returns-in-Model-clause-ok
returns-in-Model-clause-ok c =
    let a = c.args in
    on_ok_at _ (λ w. item_body (tables_in a.tables.now) (draft_in a.tables.now.headers.kinds a.draft.now) a.place w (Some items.Model) (views a.parts.now)) a.word.now
    (ap (λ i. item_body (tables_in a.tables.now) (draft_in a.tables.now.headers.kinds a.draft.now) a.place a.word.now (Some i) (views a.parts.now)) c.in-Model.is) _ _ c.add_model.ensures.ok

pub returns-in-Model-clause-refused : goal.returns-in-Model-clause-refused
returns-in-Model-clause-refused c =
    let a = c.args in
    refused_at _ (λ w. item_body (tables_in a.tables.now) (draft_in a.tables.now.headers.kinds a.draft.now) a.place w (Some items.Model) (views a.parts.now)) a.word.now
    (ap (λ i. item_body (tables_in a.tables.now) (draft_in a.tables.now.headers.kinds a.draft.now) a.place a.word.now (Some i) (views a.parts.now)) c.in-Model.is) _ c.add_model.ensures.refused
