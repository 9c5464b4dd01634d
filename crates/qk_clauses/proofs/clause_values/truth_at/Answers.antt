use Rattle.std.proofs.Common.{sym, Ok}
use Rattle.qk_core.specs.ExprView.{view_expr}
use Rattle.qk_syntax.specs.View.{view}
use Rattle.qk_expressions.specs.Expressions.{expression_of_type}
use Rattle.qk_typing.specs.TablesView.{tables_in}
use Rattle.qk_names.proofs.Following.{if_ok_by, refused_by}
use Rattle.qk_clauses.proofs.clause_values.truth_at.Goals as goal

pub returns-clause-ok : goal.returns-clause-ok
returns-clause-ok c =
    let a = c.args in
    if_ok_by _ _ _ (λ e. Ok (view_expr e)) (λ i. expression_of_type (tables_in a.tables.now) (sym c.requires i) (sym c.truth_type-truth.ensures i) (view a.tree.now)) c.typed_expression.ensures.ok

pub returns-clause-refused : goal.returns-clause-refused
returns-clause-refused c =
    let a = c.args in
    refused_by _ _ _ (λ i. expression_of_type (tables_in a.tables.now) (sym c.requires i) (sym c.truth_type-truth.ensures i) (view a.tree.now)) c.typed_expression.ensures.refused
