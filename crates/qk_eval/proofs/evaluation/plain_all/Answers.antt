use Rattle.std.proofs.Common.{◌≡◌, ◌∙◌, ◌++◌, ◌∷◌, [], map, take, ap, sym, subst, List}
use Rattle.std.proofs.lemmas.List.{map_push, take_more}
use Rattle.qk_eval.specs.Answers.{AreSmall}
use Rattle.qk_value.specs.Data.{Data}
use Rattle.qk_value.specs.View.{view_value}
use Rattle.qk_eval.proofs.AnswerLaws.{small_push}
use Rattle.qk_eval.proofs.evaluation.plain_all.Goals as goal

pub loop-value-preserved : goal.loop-value-preserved
loop-value-preserved c =
    let before = c.loop-value.all.items in
    let x = c.value-item.result in
    let shared = c.args.values.now in
    let i = c.loop-value.value-index in
    let added : map view_value c.add.new.self.items ≡ map view_value before ++ x ∷ [] =
    ap (map view_value) c.in_ok-add.ensures.ok ∙ map_push view_value before c.in_ok-to_value.field-0 ∙ ap (λ (y : Data). map view_value before ++ y ∷ []) c.in_ok-to_value.ensures in
    record {
      same = added ∙ ap (λ (ys : List Data). ys ++ x ∷ []) c.loop-value.invariant.same ∙ ap (λ (y : Data). take i shared ++ y ∷ []) c.value-item.is ∙ sym (take_more shared i x c.loop-value-test.true);
      small = let P : List Data → Type 0 = λ ys. AreSmall ys in subst P (sym added) (small_push (map view_value before) x c.loop-value.invariant.small c.is_small.ensures);
    }
