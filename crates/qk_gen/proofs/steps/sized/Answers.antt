use Rattle.std.proofs.Common.{◌≡◌, ℕ, ℤ, rules}
use Rattle.qk_core.specs.ExprView.{view_expr}
use Rattle.qk_core.specs.GenView.{view_gen}
use Rattle.qk_eval.specs.Meaning.{Evaluated, meaning}
use Rattle.qk_gen.specs.Drawing.{drawing, length_of, vector}
use Rattle.qk_gen.proofs.ChoiceLaws.{number_then}
use Rattle.qk_value.specs.Data.{Data}
use Rattle.qk_gen.proofs.steps.sized.Goals as goal

pub returns-in_ok-next-in-Ok : goal.returns-in_ok-next-in-Ok
returns-in_ok-next-in-Ok c =
    let functions = c.args.core.now.functions in
    let generators = c.args.core.now.generators in
    let env = c.args.env.now in
    let go : ℤ → ℕ → Evaluated Data = λ z v. vector (λ h w. drawing functions generators (view_gen c.args.item.now) env c.args.size h w) (length_of z) c.args.g v in
    let found = rw c.in-Ok.is at c.in_ok-cause.ensures in
    let counted = number_then (meaning functions (view_expr c.args.length.now) env c.args.left.now) c.in-Ok.number c.number_in.new.left go found in
    let count : c.length_in-count.result ≡ length_of c.in-Ok.number = search rules in
    rw counted (rw count at (c.in_ok-next-in-Ok.ensures functions generators env c.number_in.new.left))
