use Rattle.std.proofs.Common.{rules}
use Rattle.qk_names.proofs.Following.{refused_there}
use Rattle.qk_headers.proofs.Parts.{shape_apart, under, over}
use Rattle.qk_headers.proofs.header_parts.property_shape.Goals as goal
use Rattle.qk_headers.proofs.header_parts.property_shape.Goals.{in_default-via-then-parts-lt1, in_default-via-else-parts-lt1+else-parts-lt2}

pub returns-in_default-clause-refused : goal.returns-in_default-clause-refused
returns-in_default-clause-refused c =
    let a = c.args in
    refused_there _ _ _ _ c.refusal.ensures
    (elim c.in_default.branch [
      | in_default-via-then-parts-lt1 w ↦ shape_apart a.place a.parts.now (under a.parts.now 1 (search rules))
      | in_default-via-else-parts-lt1+else-parts-lt2 w ↦ shape_apart a.place a.parts.now (over a.parts.now 1 (search rules))
    ])
