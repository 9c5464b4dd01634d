-- What the forms of generators are seen as.
use Rattle.std.proofs.Common.{◌≡◌, ℕ, ap, sym, ◌∙◌}
use Rattle.qk_core.specs.ExprView.{view_expr}
use Rattle.qk_core.specs.GenData.{GenData}
use Rattle.qk_core.specs.GenData as gens
use Rattle.qk_core.specs.GenView.{view_gen, gen_step, weighted_step}
use Rattle.qk_core.specs.declared.gen_expr.GenExpr.{fold-roll-GenExpr}
use Rattle.qk_core.specs.declared.gen_expr.GenExpr.TheVariants as forms
use Rattle.qk_core.specs.declared.gen_expr.GenExpr.TheOpen.{GenExpr-F}

pub view_int : view_gen forms.Int ≡ gens.any_number
view_int = ap view_gen (sym forms.rolls-Int) ∙ fold-roll-GenExpr GenData (ℕ × GenData) gen_step weighted_step GenExpr-F.Int

pub view_bool : view_gen forms.Bool ≡ gens.any_truth
view_bool = ap view_gen (sym forms.rolls-Bool) ∙ fold-roll-GenExpr GenData (ℕ × GenData) gen_step weighted_step GenExpr-F.Bool

pub view_size : view_gen forms.Size ≡ gens.size
view_size = ap view_gen (sym forms.rolls-Size) ∙ fold-roll-GenExpr GenData (ℕ × GenData) gen_step weighted_step GenExpr-F.Size

pub view_list : (item : _) → view_gen (forms.List item) ≡ gens.list (view_gen item.value)
view_list item = ap view_gen (sym (forms.rolls-List item)) ∙ fold-roll-GenExpr GenData (ℕ × GenData) gen_step weighted_step (GenExpr-F.List item)

pub view_vector : (length item : _) → view_gen (forms.Vector length item) ≡ gens.vector (view_expr length) (view_gen item.value)
view_vector length item = ap view_gen (sym (forms.rolls-Vector length item)) ∙ fold-roll-GenExpr GenData (ℕ × GenData) gen_step weighted_step (GenExpr-F.Vector length item)

pub view_pair : (first second : _) → view_gen (forms.Pair first second) ≡ gens.pair (view_gen first.value) (view_gen second.value)
view_pair first second = ap view_gen (sym (forms.rolls-Pair first second)) ∙ fold-roll-GenExpr GenData (ℕ × GenData) gen_step weighted_step (GenExpr-F.Pair first second)

pub view_bind : (first body : _) → view_gen (forms.Bind first body) ≡ gens.bind (view_gen first.value) (view_gen body.value)
view_bind first body = ap view_gen (sym (forms.rolls-Bind first body)) ∙ fold-roll-GenExpr GenData (ℕ × GenData) gen_step weighted_step (GenExpr-F.Bind first body)
