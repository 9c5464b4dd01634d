use Rattle.std.proofs.Common.{rules}
use Rattle.qk_names.specs.NameTable.{names_in}
use Rattle.qk_names.proofs.Following.{refused_there}
use Rattle.qk_headers.proofs.Parts.{parameter_apart, under, over}
use Rattle.qk_headers.proofs.signatures.headed_parameter.Goals as goal
use Rattle.qk_headers.proofs.signatures.headed_parameter.Goals.{in_default-via-then-parts-lt2, in_default-via-else-parts-lt2+else-parts-lt3}

pub returns-in_default-clause-refused : goal.returns-in_default-clause-refused
returns-in_default-clause-refused c =
    let a = c.args in
    refused_there _ _ _ _ c.refusal.ensures
    (elim c.in_default.branch [
      | in_default-via-then-parts-lt2 w ↦ parameter_apart (names_in a.names.now) a.place a.before.now.items a.parts.now (under a.parts.now 2 (search rules))
      | in_default-via-else-parts-lt2+else-parts-lt3 w ↦ parameter_apart (names_in a.names.now) a.place a.before.now.items a.parts.now (over a.parts.now 2 (search rules))
    ])
