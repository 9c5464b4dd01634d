use Rattle.std.proofs.Common.{rules}
use Rattle.qk_typing.specs.TablesView.{tables_in}
use Rattle.qk_names.proofs.Following.{refused_there}
use Rattle.qk_headers.proofs.Parts.{under, over}
use Rattle.qk_types.proofs.WrongBodies.{property_apart}
use Rattle.qk_types.proofs.properties.property_body.Goals as goal
use Rattle.qk_types.proofs.properties.property_body.Goals.{in_default-via-then-parts-lt1, in_default-via-else-parts-lt1+else-parts-lt2}

pub returns-in_default-clause-refused : goal.returns-in_default-clause-refused
returns-in_default-clause-refused c =
    let a = c.args in
    refused_there _ _ _ _ c.refusal.ensures
    (elim c.in_default.branch [
      | in_default-via-then-parts-lt1 w ↦ property_apart (tables_in a.tables.now) a.place a.word.now a.parts.now (under a.parts.now 1 (search rules))
      | in_default-via-else-parts-lt1+else-parts-lt2 w ↦ property_apart (tables_in a.tables.now) a.place a.word.now a.parts.now (over a.parts.now 1 (search rules))
    ])
