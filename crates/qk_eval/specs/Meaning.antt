-- What an expression means: a value with the units of fuel that are left, or a crash with its cause.
use Rattle.std.specs.Prelude.{ℕ, zero, suc, ◌^◌, ◌-◌, ◌&&◌, ℤ, pos, negsuc, ◌+ℤ◌, ◌-ℤ◌, ◌*ℤ◌, neg_ℤ, int_div, int_rem, Bool, true, false, not, List, [], ◌∷◌, ◌++◌, Option, Some, None, Result, Ok, Err, nat_lt, if◌then◌else◌, slice_get, unwrap_or, option_map}
use Rattle.std.specs.Ordering.{is_eq, is_lt, is_le, int_eq}
use Rattle.qk_base.specs.declared.outcome.Cause.{Cause}
use Rattle.qk_base.specs.declared.outcome.Cause.TheVariants.{Overflow, DivZero, Fuel}
use Rattle.qk_core.specs.Definitions.{FunctionData}
use Rattle.qk_core.specs.ExprData.{ExprData, number, truth, variable, empty, choice, binding, unary, binary, matching, making, call, ExprsData, end as no_expr, more as more_exprs, CasesData, no_case, more_cases}
use Rattle.qk_core.specs.declared.expr.Op1.{Op1}
use Rattle.qk_core.specs.declared.expr.Op1.TheVariants.{Neg, Not, Length}
use Rattle.qk_core.specs.declared.expr.Op2.{Op2}
use Rattle.qk_core.specs.declared.expr.Op2.TheVariants.{Add, Sub, Mul, Div, Mod, Equal, Less, AtMost, And, Or, Cons, Append, Pair}
use Rattle.qk_value.specs.Data.{Data, int, bool, list, pair, made, end, datas_of}
use Rattle.qk_value.specs.Order.{compare}
use Rattle.qk_eval.specs.Parts.{number_of, truth_of, items_of, count, joined, before, parts_of, fits, small}

-- a result with the units left, or a crash with its cause
pub data Evaluated (R : Type 0) : Type 0 where
  result : (found : R) (left : ℕ) → Evaluated R
  crash : (cause : Cause) → Evaluated R

-- goes on with a result and the units left
abbrev pub and_then : {R S : Type 0} → Evaluated R → (R → ℕ → Evaluated S) → Evaluated S
and_then (result x u) go = go x u
and_then (crash c) go = crash c

-- a number lies within 64 bits
abbrev pub fits_i64 : ℤ → Bool
fits_i64 (pos n) = nat_lt n (2 ^ 63)
fits_i64 (negsuc n) = nat_lt n (2 ^ 63)

abbrev pub number_if_fits : ℤ → Result Data Cause
number_if_fits z = if fits_i64 z then Ok (int z) else Err Overflow

-- a number that was found, or an overflow
abbrev pub overflow_unless : Option ℤ → Result Data Cause
overflow_unless None = Err Overflow
overflow_unless (Some z) = Ok (int z)

-- the one quotient outside 64 bits: of the least number by -1
abbrev pub overflows : ℤ → ℤ → Bool
overflows m n = int_eq m (negsuc (2 ^ 63 - 1)) && int_eq n (negsuc 0)

-- a quotient, towards zero
abbrev pub quotient : ℤ → ℤ → Result Data Cause
quotient m n = if int_eq n (pos 0) then Err DivZero else if overflows m n then Err Overflow else Ok (int (int_div m n))

-- what is left by that quotient, with the sign of the first number
abbrev pub remainder : ℤ → ℤ → Result Data Cause
remainder m n = if int_eq n (pos 0) then Err DivZero else if overflows m n then Err Overflow else Ok (int (int_rem m n))

abbrev pub unary_of : Op1 → Data → Result Data Cause
unary_of Neg x = number_if_fits (neg_ℤ (number_of x))
unary_of Not x = Ok (bool (not (truth_of x)))
unary_of Length x = Ok (int (pos (count (items_of x))))

abbrev pub binary_of : Op2 → Data → Data → Result Data Cause
binary_of Add x y = number_if_fits (number_of x +ℤ number_of y)
binary_of Sub x y = number_if_fits (number_of x -ℤ number_of y)
binary_of Mul x y = number_if_fits (number_of x *ℤ number_of y)
binary_of Div x y = quotient (number_of x) (number_of y)
binary_of Mod x y = remainder (number_of x) (number_of y)
binary_of Equal x y = Ok (bool (is_eq (compare x y)))
binary_of Less x y = Ok (bool (is_lt (compare x y)))
binary_of AtMost x y = Ok (bool (is_le (compare x y)))
binary_of And x y = Ok (bool (truth_of y))
binary_of Or x y = Ok (bool (truth_of y))
binary_of Cons x y = small (before x y)
binary_of Append x y = small (list (joined (items_of x) (items_of y)))
binary_of Pair x y = small (pair x y)

-- what the first part decides alone
abbrev pub decided_by : Op2 → Data → Option Bool
decided_by And x = if truth_of x then None else Some false
decided_by Or x = if truth_of x then Some true else None
decided_by op x = None

-- a value, or a crash
abbrev pub or_crash : Result Data Cause → ℕ → Evaluated Data
or_crash (Err c) u = crash c
or_crash (Ok x) u = result x u

-- what is decided, or what comes next
abbrev pub or_else : Option Bool → (ℕ → Evaluated Data) → ℕ → Evaluated Data
or_else None go u = go u
or_else (Some b) go u = result (bool b) u

-- what a function, by its number, comes to with its arguments and units
abbrev pub Calls : Type 0
Calls = ℕ → List Data → ℕ → Evaluated Data

-- what comes to pass in an environment with units
abbrev pub Does : Type 0 → Type 0
Does R = List Data → ℕ → Evaluated R

-- the meaning of an expression, over that of calls; parts go from left to right
abbrev mutual
  pub mean : Calls → ExprData → Does Data
  mean calls (number n) env u = result (int n) u
  mean calls (truth b) env u = result (bool b) u
  mean calls (variable x) env u = result (unwrap_or (slice_get env x) (list end)) u
  mean calls (empty t) env u = result (list end) u
  mean calls (choice c a b) env u = and_then (mean calls c env u) (λ x v. if truth_of x then mean calls a env v else mean calls b env v)
  mean calls (binding a b) env u = and_then (mean calls a env u) (λ x v. mean calls b (env ++ x ∷ []) v)
  mean calls (unary op a) env u = and_then (mean calls a env u) (λ x v. or_crash (unary_of op x) v)
  mean calls (binary op a b) env u = and_then (mean calls a env u) (λ x v. or_else (decided_by op x) (λ v. and_then (mean calls b env v) (λ y w. or_crash (binary_of op x y) w)) v)
  mean calls (matching a cases) env u = and_then (mean calls a env u) (λ x v. mean_case calls cases x env v)
  mean calls (making k m parts) env u = and_then (mean_all calls parts env u) (λ xs v. or_crash (small (made k m (datas_of xs))) v)
  mean calls (call f args) env u = and_then (mean_all calls args env u) (λ xs v. calls f xs v)

  pub mean_all : Calls → ExprsData → Does (List Data)
  mean_all calls no_expr env u = result [] u
  mean_all calls (more_exprs e es) env u = and_then (mean calls e env u) (λ x v. and_then (mean_all calls es env v) (λ xs w. result (x ∷ xs) w))

  -- the first case that takes the value, with what it adds to the environment
  pub mean_case : Calls → CasesData → Data → Does Data
  mean_case calls no_case x env u = result (list end) u
  mean_case calls (more_cases pattern body cases) x env u = if fits pattern x then mean calls body (env ++ parts_of x) u else mean_case calls cases x env u

-- the body of a function, by its number
abbrev pub body_of : List FunctionData → ℕ → Option ExprData
body_of functions f = option_map (λ function. function.body) (slice_get functions f)

-- the meaning of a body, whose environment is the arguments
abbrev pub mean_body : Calls → Option ExprData → Does Data
mean_body calls None env u = result (list end) u
mean_body calls (Some body) env u = mean calls body env u

-- what the functions come to in calls that are nested at most n deep
abbrev pub calls_within : List FunctionData → ℕ → Calls
calls_within functions n f args zero = crash Fuel
calls_within functions zero f args (suc u) = crash Fuel
calls_within functions (suc n) f args (suc u) = mean_body (calls_within functions n) (body_of functions f) args u

-- a call takes one unit, so that calls are nested no deeper than there are units
unfoldable pub calling : List FunctionData → Calls
calling functions f args u = calls_within functions u f args u

-- the meaning of an expression in an environment with units, over a program's functions
abbrev pub meaning : List FunctionData → ExprData → Does Data
meaning functions = mean (calling functions)

-- the meaning of a call, which takes one unit and evaluates the body with the arguments as its environment
abbrev pub called : List FunctionData → ℕ → List Data → ℕ → Evaluated Data
called functions f args zero = crash Fuel
called functions f args (suc u) = mean_body (calling functions) (body_of functions f) args u
