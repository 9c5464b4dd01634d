use Rattle.std.proofs.Common.{rules, ◌≡◌, ◌∙◌, ◌<◌, ◌++◌, ◌∷◌, [], List, ap, length, map, sym, true, false}
use Rattle.std.proofs.lemmas.List.{map-append}
use Rattle.std.specs.List.{list_any}
use Rattle.std.specs.Str.{bytes_eq}
use Rattle.qk_report.proofs.Distinct.{step_same, step_more}
use Rattle.qk_report.proofs.given.distinct.Goals as goal
use Rattle.qk_report.proofs.given.distinct.Goals.{then-not-is_among+in_ok-push, else-not-is_among}

pub loop-name-preserved : goal.loop-name-preserved
loop-name-preserved c =
    let within : c.loop-name.name-index < length c.args.names.now = search rules in
    elim c.if-not-is_among.branch [
      | then-not-is_among+in_ok-push w ↦
          ap (λ v. map (λ name. name.now) v.items) w.kept-is ∙ ap (map (λ name. name.now)) w.in_ok-push.ensures.items ∙ map-append (λ name. name.now) c.loop-name.kept.items _
          ∙ step_more (λ name. name.now) c.args.names.now c.loop-name.name-index _ _ within c.loop-name.invariant (search rules)
      | else-not-is_among w ↦
          ap (λ v. map (λ name. name.now) v.items) w.kept-is ∙ step_same (λ name. name.now) c.args.names.now c.loop-name.name-index (record { ref_ptr = (0, 0); now = [] }) _ within c.loop-name.invariant (search rules)
    ]
