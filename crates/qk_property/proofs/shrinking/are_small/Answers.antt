use Rattle.std.proofs.Common.{◌∙◌, ◌++◌, ◌∷◌, [], take, ap, sym, subst, List}
use Rattle.std.proofs.lemmas.List.{take_more}
use Rattle.qk_eval.proofs.AnswerLaws.{small_push}
use Rattle.qk_eval.specs.Answers.{AreSmall}
use Rattle.qk_value.specs.Data.{Data}
use Rattle.qk_property.proofs.shrinking.are_small.Goals as goal

pub loop-value-preserved : goal.loop-value-preserved
loop-value-preserved c =
    let values = c.args.values.now in
    let passed = take c.loop-value.value-index values in
    let x = c.value-item.result in
    let more = ap (λ (y : Data). passed ++ y ∷ []) c.value-item.is ∙ sym (take_more values c.loop-value.value-index x c.loop-value-test.true) in
    let P : List Data → Type 0 = λ ys. AreSmall ys in subst P more (small_push passed x c.loop-value.invariant c.is_small.ensures)
