use Rattle.std.proofs.Common.{rules}
use Rattle.qk_typing.specs.TablesView.{tables_in}
use Rattle.qk_names.proofs.Following.{refused_there}
use Rattle.qk_headers.proofs.Parts.{under, over}
use Rattle.qk_clauses.proofs.WrongCounts.{commands_apart}
use Rattle.qk_clauses.proofs.draws.command_parts.Goals as goal
use Rattle.qk_clauses.proofs.draws.command_parts.Goals.{in_default-via-then-parts-lt2, in_default-via-else-parts-lt2+else-parts-lt3}

pub returns-in_default-clause-refused : goal.returns-in_default-clause-refused
returns-in_default-clause-refused c =
    let a = c.args in
    refused_there _ _ _ _ c.refusal.ensures
    (elim c.in_default.branch [
      | in_default-via-then-parts-lt2 w ↦ commands_apart (tables_in a.tables.now) a.place a.parts.now (under a.parts.now 2 (search rules))
      | in_default-via-else-parts-lt2+else-parts-lt3 w ↦ commands_apart (tables_in a.tables.now) a.place a.parts.now (over a.parts.now 2 (search rules))
    ])
