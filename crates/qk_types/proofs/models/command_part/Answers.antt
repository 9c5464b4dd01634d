use Rattle.std.proofs.Common.{rules}
use Rattle.qk_typing.specs.TablesView.{tables_in}
use Rattle.qk_names.proofs.Following.{refused_there}
use Rattle.qk_headers.proofs.Parts.{under, over}
use Rattle.qk_types.proofs.WrongBodies.{command_apart}
use Rattle.qk_types.proofs.models.command_part.Goals as goal
use Rattle.qk_types.proofs.models.command_part.Goals.{in_default-via-then-parts-lt3, in_default-via-else-parts-lt3+else-parts-lt4}

pub returns-in_default-clause-refused : goal.returns-in_default-clause-refused
returns-in_default-clause-refused c =
    let a = c.args in
    refused_there _ _ _ _ c.refusal.ensures
    (elim c.in_default.branch [
      | in_default-via-then-parts-lt3 w ↦ command_apart (tables_in a.tables.now) a.place a.types.now a.parts.now (under a.parts.now 3 (search rules))
      | in_default-via-else-parts-lt3+else-parts-lt4 w ↦ command_apart (tables_in a.tables.now) a.place a.types.now a.parts.now (over a.parts.now 3 (search rules))
    ])
