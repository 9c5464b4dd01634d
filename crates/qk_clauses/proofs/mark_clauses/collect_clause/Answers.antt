use Rattle.std.proofs.Common.{rules}
use Rattle.qk_typing.specs.TablesView.{tables_in}
use Rattle.qk_clauses.specs.ClausesView.{clauses_in}
use Rattle.qk_names.proofs.Following.{refused_there}
use Rattle.qk_headers.proofs.Parts.{under, over}
use Rattle.qk_clauses.proofs.WrongCounts.{collects_apart}
use Rattle.qk_clauses.proofs.mark_clauses.collect_clause.Goals as goal
use Rattle.qk_clauses.proofs.mark_clauses.collect_clause.Goals.{in_default-via-then-parts-lt1, in_default-via-else-parts-lt1+else-parts-lt2}

pub returns-in_default-clause-refused : goal.returns-in_default-clause-refused
returns-in_default-clause-refused c =
    let a = c.args in
    refused_there _ _ _ _ c.refusal.ensures
    (elim c.in_default.branch [
      | in_default-via-then-parts-lt1 w ↦ collects_apart (tables_in a.tables.now) a.place a.bound.now.binders.items (clauses_in a.before.now) a.parts.now (under a.parts.now 1 (search rules))
      | in_default-via-else-parts-lt1+else-parts-lt2 w ↦ collects_apart (tables_in a.tables.now) a.place a.bound.now.binders.items (clauses_in a.before.now) a.parts.now (over a.parts.now 1 (search rules))
    ])
