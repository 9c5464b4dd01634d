-- The values so far, and those of what is left, are the values of all.
use Rattle.std.proofs.Common.{◌≡◌, drop}
use Rattle.qk_core.specs.ExprView.{view_exprs}
use Rattle.qk_eval.specs.Meaning.{mean_all, calling}
use Rattle.qk_gen.specs.Pending.{all_values}
use Rattle.qk_gen.proofs.expressions.values_of.Given as goal

abbrev pub invariant-loop-expr : goal.invariant-loop-expr
invariant-loop-expr l =
    all_values l.core.functions l.all.items (view_exprs (drop l.expr-index l.exprs)) l.env l.left
    ≡ mean_all (calling l.core.functions) (view_exprs l.exprs) l.env l.fn.left
