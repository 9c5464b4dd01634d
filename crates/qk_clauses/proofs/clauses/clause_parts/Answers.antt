use Rattle.std.proofs.Common.{ap}
use Rattle.qk_syntax.specs.View.{views}
use Rattle.qk_clauses.specs.Clauses.{clause_parts, checks_runs, labels}
use Rattle.qk_clauses.specs.ClausesView.{head_in, clauses_in}
use Rattle.qk_typing.specs.TablesView.{tables_in}
use Rattle.qk_names.proofs.Following.{on_ok_at, refused_at, on_ok_at_both, refused_at_both}
use Rattle.qk_clauses.proofs.clauses.clause_parts.Goals as goal

pub returns-in-CheckRuns-clause-ok : goal.returns-in-CheckRuns-clause-ok
returns-in-CheckRuns-clause-ok c =
    let a = c.args in
    on_ok_at _ (λ d. clause_parts d a.bound.now.binders.items (clauses_in a.before.now) a.place checks_runs (views a.parts.now)) (tables_in a.tables.now)
    (ap (λ h. clause_parts (tables_in a.tables.now) a.bound.now.binders.items (clauses_in a.before.now) a.place (head_in h) (views a.parts.now)) c.in-CheckRuns.is) _ _ c.runs_clause.ensures.ok

pub returns-in-Label-clause-ok : goal.returns-in-Label-clause-ok
returns-in-Label-clause-ok c =
    let a = c.args in
    on_ok_at_both _ (λ d bs. clause_parts d bs (clauses_in a.before.now) a.place labels (views a.parts.now)) (tables_in a.tables.now) a.bound.now.binders.items
    (ap (λ h. clause_parts (tables_in a.tables.now) a.bound.now.binders.items (clauses_in a.before.now) a.place (head_in h) (views a.parts.now)) c.in-Label.is) _ _ c.label_clause.ensures.ok

pub returns-in-CheckRuns-clause-refused : goal.returns-in-CheckRuns-clause-refused
returns-in-CheckRuns-clause-refused c =
    let a = c.args in
    refused_at _ (λ d. clause_parts d a.bound.now.binders.items (clauses_in a.before.now) a.place checks_runs (views a.parts.now)) (tables_in a.tables.now)
    (ap (λ h. clause_parts (tables_in a.tables.now) a.bound.now.binders.items (clauses_in a.before.now) a.place (head_in h) (views a.parts.now)) c.in-CheckRuns.is) _ c.runs_clause.ensures.refused

pub returns-in-Label-clause-refused : goal.returns-in-Label-clause-refused
returns-in-Label-clause-refused c =
    let a = c.args in
    refused_at_both _ (λ d bs. clause_parts d bs (clauses_in a.before.now) a.place labels (views a.parts.now)) (tables_in a.tables.now) a.bound.now.binders.items
    (ap (λ h. clause_parts (tables_in a.tables.now) a.bound.now.binders.items (clauses_in a.before.now) a.place (head_in h) (views a.parts.now)) c.in-Label.is) _ c.label_clause.ensures.refused
