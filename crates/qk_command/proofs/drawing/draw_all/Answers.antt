use Rattle.std.proofs.Common.{◌≡◌, ◌∙◌, [], length, ap, sym, zero-add}
use Rattle.std.proofs.lemmas.List.{length-map}
use Rattle.qk_value.specs.View.{view_value}
use Rattle.qk_command.specs.Drawing.{DrawnValues, drawn_values}
use Rattle.qk_command.proofs.DrawingLaws.{whole}
use Rattle.qk_command.proofs.drawing.draw_all.Goals as goal

pub returns-clause-whole : goal.returns-clause-whole
returns-clause-whole c =
    let d = drawn_values c.args.core.now c.args.property.now c.args.size c.args.g c.args.fuel in
    let binders = c.args.property.now.binders in
    let all = whole c.args.core.now binders [] c.args.size c.args.g c.args.fuel in
    let crash : c.in_ok-drawn.drawn.crash ≡ d.crash = ap (λ (e : DrawnValues). e.crash) c.in_ok-drawn.ensures in
    let count : length c.in_ok-values.values.items ≡ length d.values =
    sym (length-map c.in_ok-values.values.items view_value) ∙ ap length (c.in_ok-values.ensures.same ∙ c.deref.ensures.value) ∙ ap (λ (e : DrawnValues). length e.values) c.in_ok-drawn.ensures in
    let start = zero-add (length binders) in
    ((λ none. count ∙ all.0 (sym crash ∙ none) ∙ start), (λ same. crash ∙ all.1 (sym count ∙ same ∙ sym start)))
