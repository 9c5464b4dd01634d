-- What pending work comes to.
use Rattle.std.specs.Prelude.{ℕ, Bool, ◌-◌, List, [], ◌∷◌, ◌++◌, Result, Ok, Err, if◌then◌else◌, fold, take, length}
use Rattle.qk_base.specs.declared.outcome.Cause.{Cause}
use Rattle.qk_core.specs.Definitions.{FunctionData}
use Rattle.qk_core.specs.ExprView.{view_expr, view_exprs, view_cases}
use Rattle.qk_value.specs.Data.{Data, made, datas_of}
use Rattle.qk_eval.specs.Parts.{truth_of, small}
use Rattle.qk_eval.specs.Meaning.{Evaluated, result, crash, and_then, unary_of, binary_of, decided_by, or_crash, or_else, meaning, mean_all, mean_case, calling}
use Rattle.qk_eval.specs.declared.pending.Then.{Then}
use Rattle.qk_eval.specs.declared.pending.Then.TheVariants.{Call, Make}
use Rattle.qk_eval.specs.declared.pending.Frame.{Frame}
use Rattle.qk_eval.specs.declared.pending.Frame.TheVariants.{Apply, First, Second, Branch, Body, Cases, Unbind, Gather, Leave}
use Rattle.qk_eval.specs.declared.pending.Control.{Control}
use Rattle.qk_eval.specs.declared.pending.Control.TheVariants.{Evaluate, Return, Gathered, Crash}

-- what is done with a value, in an environment with units
abbrev pub Next : Type 0
Next = List Data → Data → ℕ → Evaluated Data

-- the first where that is true, else the second
abbrev pub one_of : Bool → Evaluated Data → Evaluated Data → Evaluated Data
one_of b r s = if b then r else s

-- all but the last
abbrev pub front : ℕ → List Data → List Data
front n env = take (length env - n) env

-- what is done with the values of a list of parts
abbrev pub then_does : List FunctionData → Then → List Data → ℕ → Evaluated Data
then_does functions (Call f) xs u = calling functions f xs u
then_does functions (Make k m) xs u = or_crash (small (made k m (datas_of xs))) u

-- what a frame does before what is below it
abbrev pub after : List FunctionData → Next → Frame → Next
after functions next (Apply op) env x u = and_then (or_crash (unary_of op x) u) (next env)
after functions next (First op b) env x u = and_then (or_else (decided_by op x) (λ u. and_then (meaning functions (view_expr b.now) env u) (λ y v. or_crash (binary_of op x y) v)) u) (next env)
after functions next (Second op x) env y u = and_then (or_crash (binary_of op x y) u) (next env)
after functions next (Branch a b) env x u = and_then (if truth_of x then meaning functions (view_expr a.now) env u else meaning functions (view_expr b.now) env u) (next env)
after functions next (Body b) env x u = and_then (meaning functions (view_expr b.now) (env ++ x ∷ []) u) (next env)
after functions next (Cases cases) env x u = and_then (mean_case (calling functions) (view_cases cases.now) x env u) (next env)
after functions next (Unbind n) env x u = next (front n env) x u
after functions next (Gather what rest done) env x u = and_then (mean_all (calling functions) (view_exprs rest.now) env u) (λ xs v. and_then (then_does functions what (done.items ++ x ∷ xs) v) (next env))
after functions next (Leave old) env x u = next old.items x u

-- what all frames do, of which the last is the first to go on
abbrev pub resume : List FunctionData → List Frame → Next
resume functions frames = fold (after functions) (λ env x u. result x u) frames

-- a value to go on with, or a crash
abbrev pub control_of : Result Data Cause → Control
control_of (Ok x) = Return x
control_of (Err c) = Crash c

-- what the machine comes to
abbrev pub outcome : List FunctionData → List Frame → List Data → Control → ℕ → Evaluated Data
outcome functions frames env (Evaluate e) u = and_then (meaning functions (view_expr e.now) env u) (resume functions frames env)
outcome functions frames env (Return x) u = resume functions frames env x u
outcome functions frames env (Gathered what parts) u = and_then (then_does functions what parts.items u) (resume functions frames env)
outcome functions frames env (Crash c) u = crash c
