use Rattle.std.proofs.Common.{rules}
use Rattle.qk_typing.specs.TablesView.{tables_in}
use Rattle.qk_value.specs.View.{view_type}
use Rattle.qk_names.proofs.Following.{refused_there}
use Rattle.qk_headers.proofs.Parts.{under, over}
use Rattle.qk_clauses.proofs.WrongCounts.{shrink_apart}
use Rattle.qk_clauses.proofs.draws.shrink_with.Goals as goal
use Rattle.qk_clauses.proofs.draws.shrink_with.Goals.{in_default-via-then-parts-lt1, in_default-via-else-parts-lt1+else-parts-lt2}

pub returns-in_default-clause-refused : goal.returns-in_default-clause-refused
returns-in_default-clause-refused c =
    let a = c.args in
    refused_there _ _ _ _ c.refusal.ensures
    (elim c.in_default.branch [
      | in_default-via-then-parts-lt1 w ↦ shrink_apart (tables_in a.tables.now) a.place (view_type a.ty.now) a.parts.now (under a.parts.now 1 (search rules))
      | in_default-via-else-parts-lt1+else-parts-lt2 w ↦ shrink_apart (tables_in a.tables.now) a.place (view_type a.ty.now) a.parts.now (over a.parts.now 1 (search rules))
    ])
