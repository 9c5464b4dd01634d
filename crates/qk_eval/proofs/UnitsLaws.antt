-- A meaning looks at calls with no more units than it has, and leaves no more.
use Rattle.std.proofs.Common.{◌≡◌, ℕ, zero, suc, ◌≤◌, List, [], ◌∷◌, ◌++◌, Bool, true, false, Option, Some, None, Result, Ok, Err, if◌then◌else◌, refl, ap, ◌∙◌, arith, le_refl, le_trans, ◌≢◌, ◌-◌, sub-one}
use Rattle.qk_base.specs.declared.outcome.Cause.{Cause}
use Rattle.qk_base.specs.declared.outcome.Cause.TheVariants.{Fuel}
use Rattle.qk_core.specs.Definitions.{FunctionData}
use Rattle.qk_core.specs.ExprData.{ExprData, number, truth, variable, empty, choice, binding, unary, binary, matching, making, call, ExprsData, end as no_expr, more as more_exprs, CasesData, no_case, more_cases}
use Rattle.qk_value.specs.Data.{Data, made, datas_of}
use Rattle.qk_eval.specs.Parts.{truth_of, parts_of, fits, small}
use Rattle.qk_eval.specs.Meaning.{Evaluated, result, crash, and_then, unary_of, binary_of, decided_by, or_crash, or_else, Calls, mean, mean_all, mean_case, mean_body, body_of, calls_within, calling, called, meaning}

-- no more units are left than there were
abbrev pub Within : {R : Type 0} → Evaluated R → ℕ → Type 0
Within (result x v) u = v ≤ u
Within (crash c) u = Unit {0}

-- both are the same, and take what they take from these units
abbrev pub Alike : {R : Type 0} → Evaluated R → Evaluated R → ℕ → Type 0
Alike r s u = (r ≡ s) × Within r u

pub wider : {R : Type 0} (r : Evaluated R) (u v : ℕ) → u ≤ v → Within r u → Within r v
wider (result x w) u v le h = le_trans h le
wider (crash c) u v le h = tt

then_alike : {R S : Type 0} (r : Evaluated R) (f g : R → ℕ → Evaluated S) (u : ℕ) → Within r u → ((x : R) (v : ℕ) → v ≤ u → Alike (f x v) (g x v) v) → Alike (and_then r f) (and_then r g) u
then_alike (result x v) f g u le go = ((go x v le).0, wider (f x v) v u le (go x v le).1)
then_alike (crash c) f g u le go = (refl, tt)

pub both_alike : {R S : Type 0} (r s : Evaluated R) (f g : R → ℕ → Evaluated S) (u : ℕ) → Alike r s u → ((x : R) (v : ℕ) → v ≤ u → Alike (f x v) (g x v) v) → Alike (and_then r f) (and_then s g) u
both_alike r s f g u (same, le) go =
    let after = then_alike r f g u le go in
    (after.0 ∙ ap (λ t. and_then t g) same, after.1)

pub if_alike : {R : Type 0} (b : Bool) (r s r' s' : Evaluated R) (u : ℕ) → Alike r r' u → Alike s s' u → Alike (if b then r else s) (if b then r' else s') u
if_alike true r s r' s' u h k = h
if_alike false r s r' s' u h k = k

pub crash_alike : (r : Result Data Cause) (u : ℕ) → Alike (or_crash r u) (or_crash r u) u
crash_alike (Err c) u = (refl, tt)
crash_alike (Ok x) u = (refl, le_refl u)

else_alike : (o : Option Bool) (f g : ℕ → Evaluated Data) (u : ℕ) → Alike (f u) (g u) u → Alike (or_else o f u) (or_else o g u) u
else_alike None f g u h = h
else_alike (Some x) f g u h = (refl, le_refl u)

module _ (c d : Calls) (most : ℕ) (same : (f : ℕ) (args : List Data) (u : ℕ) → u ≤ most → Alike (c f args u) (d f args u) u) where
  mutual
    pub alike : (e : ExprData) (env : List Data) (u : ℕ) → u ≤ most → Alike (mean c e env u) (mean d e env u) u
    alike (number n) env u h = (refl, le_refl u)
    alike (truth b) env u h = (refl, le_refl u)
    alike (variable x) env u h = (refl, le_refl u)
    alike (empty t) env u h = (refl, le_refl u)
    alike (choice t a b) env u h = both_alike _ _ _ _ u (alike t env u h) (λ x v l. if_alike (truth_of x) _ _ _ _ v (alike a env v (le_trans l h)) (alike b env v (le_trans l h)))
    alike (binding a b) env u h = both_alike _ _ _ _ u (alike a env u h) (λ x v l. alike b (env ++ x ∷ []) v (le_trans l h))
    alike (unary op a) env u h = both_alike _ _ _ _ u (alike a env u h) (λ x v l. crash_alike (unary_of op x) v)
    alike (binary op a b) env u h = both_alike _ _ _ _ u (alike a env u h) (λ x v l. else_alike (decided_by op x) _ _ v (both_alike _ _ _ _ v (alike b env v (le_trans l h)) (λ y w m. crash_alike (binary_of op x y) w)))
    alike (matching a cases) env u h = both_alike _ _ _ _ u (alike a env u h) (λ x v l. alike_case cases x env v (le_trans l h))
    alike (making k m parts) env u h = both_alike _ _ _ _ u (alike_all parts env u h) (λ xs v l. crash_alike (small (made k m (datas_of xs))) v)
    alike (call f args) env u h = both_alike _ _ _ _ u (alike_all args env u h) (λ xs v l. same f xs v (le_trans l h))

    pub alike_all : (es : ExprsData) (env : List Data) (u : ℕ) → u ≤ most → Alike (mean_all c es env u) (mean_all d es env u) u
    alike_all no_expr env u h = (refl, le_refl u)
    alike_all (more_exprs e es) env u h = both_alike _ _ _ _ u (alike e env u h) (λ x v l. both_alike _ _ _ _ v (alike_all es env v (le_trans l h)) (λ xs w m. (refl, le_refl w)))

    alike_case : (cases : CasesData) (x : Data) (env : List Data) (u : ℕ) → u ≤ most → Alike (mean_case c cases x env u) (mean_case d cases x env u) u
    alike_case no_case x env u h = (refl, le_refl u)
    alike_case (more_cases p e cases) x env u h = if_alike (fits p x) _ _ _ _ u (alike e (env ++ parts_of x) u h) (alike_case cases x env u h)

  pub alike_body : (body : Option ExprData) (env : List Data) (u : ℕ) → u ≤ most → Alike (mean_body c body env u) (mean_body d body env u) u
  alike_body None env u h = (refl, le_refl u)
  alike_body (Some e) env u h = alike e env u h

-- a call is the same at any depth that its units do not pass
calls_alike : (functions : List FunctionData) (n m f : ℕ) (args : List Data) (u : ℕ) → u ≤ n → u ≤ m → Alike (calls_within functions n f args u) (calls_within functions m f args u) u
calls_alike functions n m f args zero h k = (refl, tt)
calls_alike functions zero m f args (suc u) h k = absurd (omega arith)
calls_alike functions (suc n) zero f args (suc u) h k = absurd (omega arith)
calls_alike functions (suc n) (suc m) f args (suc u) h k =
    let inner = alike_body (calls_within functions n) (calls_within functions m) u (λ f args v l. calls_alike functions n m f args v (omega arith) (omega arith)) (body_of functions f) args u (le_refl u) in
    (inner.0, wider (calls_within functions (suc n) f args (suc u)) u (suc u) (omega arith) inner.1)

-- what a call comes to, with no word of the depth
pub calling_called : (functions : List FunctionData) (f : ℕ) (args : List Data) (u : ℕ) → calling functions f args u ≡ called functions f args u
unfolding calling
calling_called functions f args zero = refl
calling_called functions f args (suc u) =
    (alike_body (calls_within functions u) (calling functions) u (λ f args v l. calls_alike functions u v f args v l (le_refl v)) (body_of functions f) args u (le_refl u)).0

pub calling_zero : (functions : List FunctionData) (f : ℕ) (args : List Data) → calling functions f args 0 ≡ crash Fuel
calling_zero functions f args = calling_called functions f args 0

pub calling_some : (functions : List FunctionData) (f : ℕ) (args : List Data) (u : ℕ) → u ≢ 0 → calling functions f args u ≡ mean_body (calling functions) (body_of functions f) args (u - 1)
calling_some functions f args zero h = absurd (h refl)
calling_some functions f args (suc u) h = rw sub-one (calling_called functions f args (suc u))

calling_within : (functions : List FunctionData) (f : ℕ) (args : List Data) (u : ℕ) → Within (calling functions f args u) u
unfolding calling
calling_within functions f args u = (calls_alike functions u u f args u (le_refl u) (le_refl u)).1

pub called_within : (functions : List FunctionData) (f : ℕ) (args : List Data) (u : ℕ) → Within (called functions f args u) u
called_within functions f args u = rw calling_called at (calling_within functions f args u)

pub meaning_within : (functions : List FunctionData) (e : ExprData) (env : List Data) (u : ℕ) → Within (meaning functions e env u) u
meaning_within functions e env u = (alike (calling functions) (calling functions) u (λ f args v l. (refl, calling_within functions f args v)) e env u (le_refl u)).1

pub all_within : (functions : List FunctionData) (es : ExprsData) (env : List Data) (u : ℕ) → Within (mean_all (calling functions) es env u) u
all_within functions es env u = (alike_all (calling functions) (calling functions) u (λ f args v l. (refl, calling_within functions f args v)) es env u (le_refl u)).1
