use Rattle.std.proofs.Common.{pos, ◌∙◌, ap}
use mir.Syntax.{w64}
use mir.Val.{SFits}
use Rattle.std.proofs.Common.{rules}
use Rattle.std.proofs.lemmas.Int.{to_z-of_z}
use Rattle.qk_shrink.specs.Numbers.{distances}
use Rattle.qk_shrink.specs.declared.sought.Sought.TheVariants.{Here, Past}
use Rattle.qk_shrink.proofs.SoughtLaws.{mapped}
use Rattle.qk_shrink.proofs.numbers.seek_above.Goals as goal

pub returns-in-Here : goal.returns-in-Here
returns-in-Here c =
    let fits : SFits w64 c.positive.result = search rules in
    ap Here (to_z-of_z w64 c.positive.result fits ∙ c.positive.ensures)
    ∙ mapped pos (distances c.args.m) c.args.k (Here c.in-Here.distance) c.in-Here.ensures.found

pub returns-in-Past : goal.returns-in-Past
returns-in-Past c = mapped pos (distances c.args.m) c.args.k (Past c.in-Past.left) c.in-Past.ensures.found
