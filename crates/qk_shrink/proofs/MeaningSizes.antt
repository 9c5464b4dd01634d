-- What an expression or a call comes to is small, where its environment or its arguments are.
use Rattle.std.proofs.Common.{◌≡◌, ℕ, zero, suc, ◌≤◌, ℤ, pos, neg_ℤ, ◌+ℤ◌, ◌-ℤ◌, ◌*ℤ◌, int_div, int_rem, unwrap_or, Bool, true, false, not, List, [], ◌∷◌, ◌++◌, Option, Some, None, Result, Ok, Err, slice_get, nat_lt, if◌then◌else◌, refl, arith}
use Rattle.std.proofs.lemmas.Bool.Decides.{nat_tests}
use Rattle.std.specs.Ordering.{int_eq, is_eq, is_lt, is_le}
use Rattle.qk_base.specs.declared.outcome.Cause.{Cause}
use Rattle.qk_base.specs.declared.outcome.Cause.TheVariants.{Overflow, DivZero, Weight, Depth}
use Rattle.qk_core.specs.Definitions.{FunctionData}
use Rattle.qk_core.specs.ExprData.{ExprData, number, truth, variable, empty, choice, binding, unary, binary, matching, making, call, ExprsData, end as no_expr, more as more_exprs, CasesData, no_case, more_cases}
use Rattle.qk_core.specs.declared.expr.Op1.{Op1}
use Rattle.qk_core.specs.declared.expr.Op1.TheVariants.{Neg, Not, Length}
use Rattle.qk_core.specs.declared.expr.Op2.{Op2}
use Rattle.qk_core.specs.declared.expr.Op2.TheVariants.{Add, Sub, Mul, Div, Mod, Equal, Less, AtMost, And, Or, Cons, Append, Pair}
use Rattle.qk_value.specs.Data.{Data, int, bool, list, pair, made, Datas, end, more, datas_of, listed_data}
use Rattle.qk_value.specs.Measures.{weight, weights, depth, depths, IsSmall}
use Rattle.qk_value.specs.Order.{compare}
use Rattle.qk_eval.specs.Answers.{AreSmall}
use Rattle.qk_eval.specs.Meaning.{Evaluated, result, crash, and_then, fits_i64, overflows, number_if_fits, quotient, remainder, unary_of, binary_of, decided_by, or_crash, or_else, Calls, mean, mean_all, mean_case, body_of, mean_body, calls_within, calling, called}
use Rattle.qk_eval.specs.Parts.{number_of, truth_of, items_of, count, joined, before, parts_of, fits, small}

-- what holds of a value that is found
abbrev pub Finds : {R : Type 0} → (R → Type 0) → Evaluated R → Type 0
Finds holds (result x u) = holds x
Finds holds (crash c) = Unit {0}

abbrev Gives : Result Data Cause → Type 0
Gives (Ok x) = IsSmall x
Gives (Err c) = Unit {0}

found_then : {R S : Type 0} (P : R → Type 0) (Q : S → Type 0) (r : Evaluated R) (go : R → ℕ → Evaluated S) → Finds P r → ((x : R) (u : ℕ) → P x → Finds Q (go x u)) → Finds Q (and_then r go)
found_then P Q (result x u) go h next = next x u h
found_then P Q (crash c) go h next = tt

given : (r : Result Data Cause) (u : ℕ) → Gives r → Finds IsSmall (or_crash r u)
given (Ok x) u h = h
given (Err c) u h = tt

number_small : (n : ℤ) → IsSmall (int n)
number_small n = (omega arith, omega arith)

truth_small : (b : Bool) → IsSmall (bool b)
truth_small b = (omega arith, omega arith)

none_small : IsSmall (list end)
none_small = (omega arith, omega arith)

gives_if : (b : Bool) (r s : Result Data Cause) → Gives r → Gives s → Gives (if b then r else s)
gives_if true r s h k = h
gives_if false r s h k = k

fitting : (z : ℤ) → Gives (number_if_fits z)
fitting z = gives_if (fits_i64 z) (Ok (int z)) (Err Overflow) (number_small z) tt

limited : (d : Data) (heavy deep : Bool) → (heavy ≡ false → weight d ≤ 65536) → (deep ≡ false → depth d ≤ 200) → Gives (if heavy then Err Weight else if deep then Err Depth else Ok d)
limited d true deep h k = tt
limited d false true h k = tt
limited d false false h k = (h refl, k refl)

not_more : (m n : ℕ) → nat_lt m n ≡ false → n ≤ m
not_more m n h = grind (arith, nat_tests, h)

limits : (d : Data) → Gives (small d)
limits d = limited d (nat_lt 65536 (weight d)) (nat_lt 200 (depth d)) (not_more 65536 (weight d)) (not_more 200 (depth d))

divided : (m n : ℤ) → Gives (quotient m n)
divided m n = gives_if (int_eq n (pos 0)) (Err DivZero) _ tt (gives_if (overflows m n) (Err Overflow) (Ok (int (int_div m n))) tt (number_small (int_div m n)))

left_over : (m n : ℤ) → Gives (remainder m n)
left_over m n = gives_if (int_eq n (pos 0)) (Err DivZero) _ tt (gives_if (overflows m n) (Err Overflow) (Ok (int (int_rem m n))) tt (number_small (int_rem m n)))

one_part : (op : Op1) (x : Data) → Gives (unary_of op x)
one_part Neg x = fitting (neg_ℤ (number_of x))
one_part Not x = truth_small (not (truth_of x))
one_part Length x = number_small (pos (count (items_of x)))

two_parts : (op : Op2) (x y : Data) → Gives (binary_of op x y)
two_parts Add x y = fitting (number_of x +ℤ number_of y)
two_parts Sub x y = fitting (number_of x -ℤ number_of y)
two_parts Mul x y = fitting (number_of x *ℤ number_of y)
two_parts Div x y = divided (number_of x) (number_of y)
two_parts Mod x y = left_over (number_of x) (number_of y)
two_parts Equal x y = truth_small (is_eq (compare x y))
two_parts Less x y = truth_small (is_lt (compare x y))
two_parts AtMost x y = truth_small (is_le (compare x y))
two_parts And x y = truth_small (truth_of y)
two_parts Or x y = truth_small (truth_of y)
two_parts Cons x y = limits (before x y)
two_parts Append x y = limits (list (joined (items_of x) (items_of y)))
two_parts Pair x y = limits (pair x y)

decided : (o : Option Bool) (go : ℕ → Evaluated Data) (u : ℕ) → ((v : ℕ) → Finds IsSmall (go v)) → Finds IsSmall (or_else o go u)
decided None go u h = h u
decided (Some b) go u h = truth_small b

both_ways : (b : Bool) (r s : Evaluated Data) → Finds IsSmall r → Finds IsSmall s → Finds IsSmall (if b then r else s)
both_ways true r s h k = h
both_ways false r s h k = k

pub all_small : (xs ys : List Data) → AreSmall xs → AreSmall ys → AreSmall (xs ++ ys)
all_small [] ys h k = k
all_small (x ∷ xs) ys h k = (h.0, all_small xs ys h.1 k)

held : (env : List Data) (x : ℕ) → AreSmall env → IsSmall (unwrap_or (slice_get env x) (list end))
held [] x h = none_small
held (d ∷ ds) zero h = h.0
held (d ∷ ds) (suc x) h = held ds x h.1

listed_small : (ds : Datas) → weights ds ≤ 65536 → depths ds ≤ 200 → AreSmall (listed_data ds)
listed_small end h k = tt
listed_small (more d ds) h k = ((omega (arith, h), omega (arith, k)), listed_small ds (omega (arith, h)) (omega (arith, k)))

-- the items of a small list
pub items_small : (x : Data) → IsSmall x → AreSmall (listed_data (items_of x))
items_small (list ds) h = listed_small ds (omega (arith, h.0)) (omega (arith, h.1))
items_small (int n) h = tt
items_small (bool b) h = tt
items_small (pair a b) h = tt
items_small (made k m ds) h = tt

parts_small : (x : Data) → IsSmall x → AreSmall (parts_of x)
parts_small (list end) h = tt
parts_small (list (more d ds)) h = ((omega (arith, h.0), omega (arith, h.1)), ((omega (arith, h.0), omega (arith, h.1)), tt))
parts_small (pair a b) h = ((omega (arith, h.0), omega (arith, h.1)), ((omega (arith, h.0), omega (arith, h.1)), tt))
parts_small (made k m ds) h = listed_small ds (omega (arith, h.0)) (omega (arith, h.1))
parts_small (int n) h = tt
parts_small (bool b) h = tt

-- calls that come to small values
abbrev AreSmallCalls : Calls → Type 0
AreSmallCalls calls = (f : ℕ) (xs : List Data) (u : ℕ) → AreSmall xs → Finds IsSmall (calls f xs u)

mutual
  means_small : (calls : Calls) → AreSmallCalls calls → (e : ExprData) (env : List Data) (u : ℕ) → AreSmall env → Finds IsSmall (mean calls e env u)
  means_small calls k (number n) env u h = number_small n
  means_small calls k (truth b) env u h = truth_small b
  means_small calls k (variable x) env u h = held env x h
  means_small calls k (empty t) env u h = none_small
  means_small calls k (choice c a b) env u h =
      found_then IsSmall IsSmall (mean calls c env u) _ (means_small calls k c env u h)
      (λ x v is. both_ways (truth_of x) (mean calls a env v) (mean calls b env v) (means_small calls k a env v h) (means_small calls k b env v h))
  means_small calls k (binding a b) env u h =
      found_then IsSmall IsSmall (mean calls a env u) _ (means_small calls k a env u h)
      (λ x v is. means_small calls k b (env ++ x ∷ []) v (all_small env (x ∷ []) h (is, tt)))
  means_small calls k (unary op a) env u h =
      found_then IsSmall IsSmall (mean calls a env u) _ (means_small calls k a env u h) (λ x v is. given (unary_of op x) v (one_part op x))
  means_small calls k (binary op a b) env u h =
      found_then IsSmall IsSmall (mean calls a env u) _ (means_small calls k a env u h)
      (λ x v is. decided (decided_by op x) _ v
      (λ v. found_then IsSmall IsSmall (mean calls b env v) _ (means_small calls k b env v h) (λ y w is. given (binary_of op x y) w (two_parts op x y))))
  means_small calls k (matching a cases) env u h =
      found_then IsSmall IsSmall (mean calls a env u) _ (means_small calls k a env u h) (λ x v is. case_small calls k cases x env v is h)
  means_small calls k (making l m parts) env u h =
      found_then AreSmall IsSmall (mean_all calls parts env u) _ (all_means_small calls k parts env u h) (λ xs v are. given (small (made l m (datas_of xs))) v (limits (made l m (datas_of xs))))
  means_small calls k (call f args) env u h =
      found_then AreSmall IsSmall (mean_all calls args env u) _ (all_means_small calls k args env u h) (λ xs v are. k f xs v are)

  all_means_small : (calls : Calls) → AreSmallCalls calls → (es : ExprsData) (env : List Data) (u : ℕ) → AreSmall env → Finds AreSmall (mean_all calls es env u)
  all_means_small calls k no_expr env u h = tt
  all_means_small calls k (more_exprs e es) env u h =
      found_then IsSmall AreSmall (mean calls e env u) _ (means_small calls k e env u h)
      (λ x v is. found_then AreSmall AreSmall (mean_all calls es env v) _ (all_means_small calls k es env v h) (λ xs w are. (is, are)))

  case_small : (calls : Calls) → AreSmallCalls calls → (cases : CasesData) (x : Data) (env : List Data) (u : ℕ) → IsSmall x → AreSmall env → Finds IsSmall (mean_case calls cases x env u)
  case_small calls k no_case x env u is h = none_small
  case_small calls k (more_cases pattern body cases) x env u is h =
      both_ways (fits pattern x) (mean calls body (env ++ parts_of x) u) (mean_case calls cases x env u)
      (means_small calls k body (env ++ parts_of x) u (all_small env (parts_of x) h (parts_small x is))) (case_small calls k cases x env u is h)

body_small : (calls : Calls) → AreSmallCalls calls → (body : Option ExprData) (env : List Data) (u : ℕ) → AreSmall env → Finds IsSmall (mean_body calls body env u)
body_small calls k None env u h = none_small
body_small calls k (Some body) env u h = means_small calls k body env u h

within_small : (functions : List FunctionData) (n : ℕ) → AreSmallCalls (calls_within functions n)
within_small functions n f xs zero h = tt
within_small functions zero f xs (suc u) h = tt
within_small functions (suc n) f xs (suc u) h = body_small (calls_within functions n) (within_small functions n) (body_of functions f) xs u h

calling_small : (functions : List FunctionData) → AreSmallCalls (calling functions)
unfolding calling
calling_small functions f xs u h = within_small functions u f xs u h

-- a call with small arguments comes to a small value
pub called_small : (functions : List FunctionData) (f : ℕ) (xs : List Data) (u : ℕ) → AreSmall xs → Finds IsSmall (called functions f xs u)
called_small functions f xs zero h = tt
called_small functions f xs (suc u) h = body_small (calling functions) (calling_small functions) (body_of functions f) xs u h
