use Rattle.std.proofs.Common.{rules}
use Rattle.qk_names.specs.NameTable.{names_in}
use Rattle.qk_names.proofs.Following.{refused_there}
use Rattle.qk_headers.proofs.Parts.{model_apart, under, over}
use Rattle.qk_headers.proofs.header_parts.model_types.Goals as goal
use Rattle.qk_headers.proofs.header_parts.model_types.Goals.{in_default-via-then-parts-lt3, in_default-via-else-parts-lt3+else-parts-lt4}

pub returns-in_default-clause-refused : goal.returns-in_default-clause-refused
returns-in_default-clause-refused c =
    let a = c.args in
    refused_there _ _ _ _ c.refusal.ensures
    (elim c.in_default.branch [
      | in_default-via-then-parts-lt3 w ↦ model_apart (names_in a.names.now) a.place a.parts.now (under a.parts.now 3 (search rules))
      | in_default-via-else-parts-lt3+else-parts-lt4 w ↦ model_apart (names_in a.names.now) a.place a.parts.now (over a.parts.now 3 (search rules))
    ])
