use mir.Syntax.{w64}
use mir.Val.{SFits}
use Rattle.std.proofs.Common.{◌∙◌, ap, rules}
use Rattle.std.proofs.lemmas.Int.{to_z-of_z}
use Rattle.qk_value.specs.Data.{int}
use Rattle.qk_shrink.specs.Numbers.{number_candidates}
use Rattle.qk_shrink.specs.Sought.{sought}
use Rattle.qk_shrink.specs.declared.sought.Sought.TheVariants.{Here, Past}
use Rattle.qk_shrink.proofs.SoughtLaws.{mapped}
use Rattle.qk_shrink.proofs.seeking.number.Goals as goal

pub returns-in-Here : goal.returns-in-Here
returns-in-Here c =
    let given : SFits w64 c.args.n = search rules in
    let same = to_z-of_z w64 c.args.n given in
    let fits : SFits w64 c.in-Here.n = search rules in
    ap Here c.int.ensures ∙ ap (λ n. Here (int n)) (to_z-of_z w64 c.in-Here.n fits)
    ∙ mapped int (number_candidates c.args.n) c.args.k (Here c.in-Here.n) (c.in-Here.ensures ∙ ap (λ n. sought (number_candidates n) c.args.k) same)

pub returns-in-Past : goal.returns-in-Past
returns-in-Past c =
    let given : SFits w64 c.args.n = search rules in
    let same = to_z-of_z w64 c.args.n given in
    mapped int (number_candidates c.args.n) c.args.k (Past c.in-Past.left) (c.in-Past.ensures ∙ ap (λ n. sought (number_candidates n) c.args.k) same)
