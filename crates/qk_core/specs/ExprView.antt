-- The data that an expression stands for.
use Rattle.std.specs.Prelude.{List, map}
use Rattle.qk_value.specs.View.{view_type}
use Rattle.qk_core.specs.ExprData.{ExprData, number, truth, variable, empty, choice, binding, unary, binary, matching, making, call, ExprsData, CasesData, exprs_of, cases_of}
use Rattle.qk_core.specs.declared.expr.Pattern.{Pattern}
use Rattle.qk_core.specs.declared.expr.Expr.{Expr, fold-Expr}
use Rattle.qk_core.specs.declared.expr.Case.{Case}
use Rattle.qk_core.specs.declared.expr.Expr.TheOpen.{Expr-F, Case-F}
use Rattle.qk_core.specs.declared.expr.Expr.TheFolds.{fold-Case}

-- one level, with each expression inside already seen as its data
abbrev pub expr_step : Expr-F ExprData (Pattern × ExprData) → ExprData
expr_step (Expr-F.Int n) = number n
expr_step (Expr-F.Bool b) = truth b
expr_step (Expr-F.Var x) = variable x
expr_step (Expr-F.Nil t) = empty (view_type t)
expr_step (Expr-F.If c a b) = choice c.value a.value b.value
expr_step (Expr-F.Let a b) = binding a.value b.value
expr_step (Expr-F.Unary op a) = unary op a.value
expr_step (Expr-F.Binary op a b) = binary op a.value b.value
expr_step (Expr-F.Match a cases) = matching a.value (cases_of cases.items)
expr_step (Expr-F.Make k m parts) = making k m (exprs_of parts.items)
expr_step (Expr-F.Call f args) = call f (exprs_of args.items)

abbrev pub case_step : Case-F ExprData (Pattern × ExprData) → Pattern × ExprData
case_step case = (case.pattern, case.body)

abbrev pub view_expr : Expr → ExprData
view_expr = fold-Expr ExprData (Pattern × ExprData) expr_step case_step

abbrev pub view_exprs : List Expr → ExprsData
view_exprs es = exprs_of (map view_expr es)

abbrev pub view_case : Case → Pattern × ExprData
view_case = fold-Case ExprData (Pattern × ExprData) expr_step case_step

abbrev pub view_cases : List Case → CasesData
view_cases cs = cases_of (map view_case cs)
