-- What an expression is, apart from where it lies in memory.
use Rattle.std.specs.Prelude.{ℕ, ℤ, Bool, List, [], ◌∷◌}
use Rattle.qk_value.specs.Types.{TypeData}
use Rattle.qk_core.specs.declared.expr.Op1.{Op1}
use Rattle.qk_core.specs.declared.expr.Op2.{Op2}
use Rattle.qk_core.specs.declared.expr.Pattern.{Pattern}

mutual
  pub data ExprData : Type 0 where
    number : ℤ → ExprData
    truth : Bool → ExprData
    variable : ℕ → ExprData
    empty : TypeData → ExprData
    choice : ExprData → ExprData → ExprData → ExprData
    binding : ExprData → ExprData → ExprData
    unary : Op1 → ExprData → ExprData
    binary : Op2 → ExprData → ExprData → ExprData
    matching : ExprData → CasesData → ExprData
    making : ℕ → ℕ → ExprsData → ExprData
    call : ℕ → ExprsData → ExprData

  pub data ExprsData : Type 0 where
    end : ExprsData
    more : ExprData → ExprsData → ExprsData

  pub data CasesData : Type 0 where
    no_case : CasesData
    more_cases : Pattern → ExprData → CasesData → CasesData

abbrev pub exprs_of : List ExprData → ExprsData
exprs_of [] = end
exprs_of (e ∷ es) = more e (exprs_of es)

abbrev pub cases_of : List (Pattern × ExprData) → CasesData
cases_of [] = no_case
cases_of (case ∷ cases) = more_cases case.0 case.1 (cases_of cases)
