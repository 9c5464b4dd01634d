use Rattle.std.proofs.Common.{rules}
use Rattle.qk_typing.specs.TablesView.{tables_in}
use Rattle.qk_names.proofs.Following.{refused_there}
use Rattle.qk_clauses.proofs.WrongCounts.{binder_few, binder_many}
use Rattle.qk_clauses.proofs.binders.binder_parts.Goals as goal
use Rattle.qk_clauses.proofs.binders.binder_parts.Goals.{in_default-via-then-parts-lt2, in_default-via-else-parts-lt2+else-parts-lt3+else-parts-lt4}

pub returns-in_default-clause-refused : goal.returns-in_default-clause-refused
returns-in_default-clause-refused c =
    let a = c.args in
    refused_there _ _ _ _ c.refusal.ensures
    (elim c.in_default.branch [
      | in_default-via-then-parts-lt2 w ↦ binder_few (tables_in a.tables.now) a.place a.bound.now.binders.items a.parts.now (search rules)
      | in_default-via-else-parts-lt2+else-parts-lt3+else-parts-lt4 w ↦ binder_many (tables_in a.tables.now) a.place a.bound.now.binders.items a.parts.now (search rules)
    ])
