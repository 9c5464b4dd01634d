use Rattle.std.proofs.Common.{ap, Some}
use Rattle.qk_syntax.specs.View.{views}
use Rattle.qk_headers.specs.Headers.{item_header}
use Rattle.qk_names.specs.NameTable.{names_in}
use Rattle.qk_names.specs.declared.names.Item.TheVariants as items
use Rattle.qk_names.proofs.Following.{on_ok_at, refused_at}
use Rattle.qk_headers.proofs.headers.item_header.Goals as goal

pub returns-in-Function-clause-ok : goal.returns-in-Function-clause-ok
returns-in-Function-clause-ok c =
    let a = c.args in
    on_ok_at _ (λ w. item_header (names_in a.names.now) a.headers.now a.place w (Some items.Function) (views a.parts.now)) a.word.now
    (ap (λ i. item_header (names_in a.names.now) a.headers.now a.place a.word.now (Some i) (views a.parts.now)) c.in-Function.is) _ _ c.function_header.ensures.ok

pub returns-in-Function-clause-refused : goal.returns-in-Function-clause-refused
returns-in-Function-clause-refused c =
    let a = c.args in
    refused_at _ (λ w. item_header (names_in a.names.now) a.headers.now a.place w (Some items.Function) (views a.parts.now)) a.word.now
    (ap (λ i. item_header (names_in a.names.now) a.headers.now a.place a.word.now (Some i) (views a.parts.now)) c.in-Function.is) _ c.function_header.ensures.refused

pub returns-in-Generator-clause-ok : goal.returns-in-Generator-clause-ok
returns-in-Generator-clause-ok c =
    let a = c.args in
    on_ok_at _ (λ w. item_header (names_in a.names.now) a.headers.now a.place w (Some items.Generator) (views a.parts.now)) a.word.now
    (ap (λ i. item_header (names_in a.names.now) a.headers.now a.place a.word.now (Some i) (views a.parts.now)) c.in-Generator.is) _ _ c.generator_header.ensures.ok

pub returns-in-Generator-clause-refused : goal.returns-in-Generator-clause-refused
returns-in-Generator-clause-refused c =
    let a = c.args in
    refused_at _ (λ w. item_header (names_in a.names.now) a.headers.now a.place w (Some items.Generator) (views a.parts.now)) a.word.now
    (ap (λ i. item_header (names_in a.names.now) a.headers.now a.place a.word.now (Some i) (views a.parts.now)) c.in-Generator.is) _ c.generator_header.ensures.refused

pub returns-in-Model-clause-ok : goal.returns-in-Model-clause-ok
returns-in-Model-clause-ok c =
    let a = c.args in
    on_ok_at _ (λ w. item_header (names_in a.names.now) a.headers.now a.place w (Some items.Model) (views a.parts.now)) a.word.now
    (ap (λ i. item_header (names_in a.names.now) a.headers.now a.place a.word.now (Some i) (views a.parts.now)) c.in-Model.is) _ _ c.model_header.ensures.ok

pub returns-in-Model-clause-refused : goal.returns-in-Model-clause-refused
returns-in-Model-clause-refused c =
    let a = c.args in
    refused_at _ (λ w. item_header (names_in a.names.now) a.headers.now a.place w (Some items.Model) (views a.parts.now)) a.word.now
    (ap (λ i. item_header (names_in a.names.now) a.headers.now a.place a.word.now (Some i) (views a.parts.now)) c.in-Model.is) _ c.model_header.ensures.refused
