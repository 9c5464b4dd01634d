use mir.Syntax.{w64}
use mir.Val.{SFits}
use Rattle.std.proofs.Common.{◌∙◌, ap, nat_abs, rules}
use Rattle.std.proofs.lemmas.Int.{to_z-of_z}
use Rattle.qk_eval.specs.Parts.{items_of}
use Rattle.qk_shrink.proofs.SeekLaws.{count_listed}
use Rattle.qk_shrink.proofs.lists.length_of.Goals as goal

pub returns : goal.returns
returns c =
    let fits : SFits w64 c.length.result = search rules in
    ap nat_abs (to_z-of_z w64 c.length.result fits ∙ c.length.ensures) ∙ count_listed (items_of c.args.value.now)
