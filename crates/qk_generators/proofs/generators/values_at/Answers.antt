use Rattle.std.proofs.Common.{rules, ◌≡◌, ◌∙◌, sym, subst, Ok, Err, IfOk, IfErr, refl}
use Rattle.qk_syntax.specs.Refusals.{IfRefusal}
use Rattle.qk_generators.specs.DrawingView.{drawn_in}
use Rattle.qk_names.proofs.Sequencing.{after_ok, then_ok}
use Rattle.qk_generators.proofs.generators.values_at.Goals as goal

pub returns-in_err-parts-clause-refused : goal.returns-in_err-parts-clause-refused
returns-in_err-parts-clause-refused c =
    subst (λ x. IfErr c.from_residual-in_err-parts.result (λ e. IfRefusal e (λ r. x ≡ Err r))) (sym (then_ok _ _ _ c.in_ok-check_values.ensures.ok)) (search rules)

pub returns-clause-ok : goal.returns-clause-ok
returns-clause-ok c =
    subst (λ x. IfOk c.of_values.result (λ g. x ≡ Ok (drawn_in g))) (sym (then_ok _ _ _ c.in_ok-check_values.ensures.ok ∙ after_ok _ _ _ _ c.in_ok-parts.ensures.ok refl)) c.of_values.ensures.ok

pub returns-clause-refused : goal.returns-clause-refused
returns-clause-refused c =
    subst (λ x. IfErr c.of_values.result (λ e. IfRefusal e (λ r. x ≡ Err r))) (sym (then_ok _ _ _ c.in_ok-check_values.ensures.ok ∙ after_ok _ _ _ _ c.in_ok-parts.ensures.ok refl))
    c.of_values.ensures.refused
