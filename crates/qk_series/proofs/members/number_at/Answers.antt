use mir.Syntax.{w64}
use mir.Val.{SFits}
use Rattle.std.proofs.Common.{◌∙◌, sym, rules}
use Rattle.std.proofs.lemmas.Int.{to_z-of_z}
use Rattle.qk_series.proofs.NumberLaws.{odd_place, even_place}
use Rattle.qk_series.proofs.members.number_at.Goals as goal

pub returns-then-k-eq1 : goal.returns-then-k-eq1
returns-then-k-eq1 c =
    let fits : SFits w64 c.positive.result = search rules in
    to_z-of_z w64 c.positive.result fits ∙ c.positive.ensures ∙ sym (odd_place c.args._depth c.args.k c.requires.number c.if-k-eq1.true)

pub returns-else-k-eq1 : goal.returns-else-k-eq1
returns-else-k-eq1 c =
    let fits : SFits w64 c.negative.result = search rules in
    to_z-of_z w64 c.negative.result fits ∙ c.negative.ensures ∙ sym (even_place c.args._depth c.args.k c.requires.number c.if-k-eq1.false)
