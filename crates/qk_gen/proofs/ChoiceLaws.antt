-- Laws of one of several generators, and of the values of several expressions.
use Rattle.std.proofs.Common.{◌≡◌, ℕ, ℤ, zero, suc, List, [], ◌∷◌, ◌++◌, length, slice_get, option_map, refl, ap, sym, append_assoc}
use Rattle.std.proofs.lemmas.List.{append-nil}
use Rattle.qk_base.specs.declared.outcome.Cause.{Cause}
use Rattle.qk_core.specs.Definitions.{FunctionData}
use Rattle.qk_core.specs.ExprData.{ExprData, ExprsData}
use Rattle.qk_core.specs.ExprData as exprs
use Rattle.qk_core.specs.GenView.{view_gen, view_gens}
use Rattle.qk_core.specs.declared.gen_expr.GenExpr.{GenExpr}
use Rattle.qk_eval.specs.Meaning.{Evaluated, result, crash, and_then, meaning, mean_all, calling}
use Rattle.qk_eval.specs.Parts.{number_of}
use Rattle.qk_gen.specs.Drawing.{Calls, draws_at, draws_body, gens_count}
use Rattle.qk_gen.specs.Pending.{all_values}
use Rattle.qk_splitmix.specs.SplitMix.{Generator}
use Rattle.qk_value.specs.Data.{Data}

pub draws_at_get : (functions : List FunctionData) (calls : Calls) (es : List GenExpr) (n : ℕ) (env : List Data) (size : ℕ) (g : Generator) (u : ℕ) →
    draws_at functions calls (view_gens es) n env size g u ≡ draws_body functions calls (option_map view_gen (slice_get es n)) env size g u
draws_at_get functions calls [] n env size g u = refl
draws_at_get functions calls (e ∷ es) zero env size g u = refl
draws_at_get functions calls (e ∷ es) (suc n) env size g u = draws_at_get functions calls es n env size g u

pub gens_count_length : (es : List GenExpr) → gens_count (view_gens es) ≡ length es
gens_count_length [] = refl
gens_count_length (e ∷ es) = ap suc (gens_count_length es)

value_more : (r : Evaluated (List Data)) (done : List Data) (x : Data) →
    and_then (and_then r (λ xs w. result (x ∷ xs) w)) (λ xs v. result (done ++ xs) v) ≡ and_then r (λ xs v. result ((done ++ x ∷ []) ++ xs) v)
value_more (result xs u) done x = ap (λ ys. let same : Evaluated (List Data) = result ys u in same) (sym (append_assoc done (x ∷ []) xs))
value_more (crash c) done x = refl

-- one more value is there
pub all_values_more : (functions : List FunctionData) (done : List Data) (e : ExprData) (es : ExprsData) (env : List Data) (u v : ℕ) (x : Data) →
    meaning functions e env u ≡ result x v → all_values functions done (exprs.more e es) env u ≡ all_values functions (done ++ x ∷ []) es env v
all_values_more functions done e es env u v x is = rw is (value_more (mean_all (calling functions) es env v) done x)

pub all_values_crash : (functions : List FunctionData) (done : List Data) (e : ExprData) (es : ExprsData) (env : List Data) (u : ℕ) (c : Cause) →
    meaning functions e env u ≡ crash c → all_values functions done (exprs.more e es) env u ≡ crash c
all_values_crash functions done e es env u c is = rw is refl

pub all_values_end : (functions : List FunctionData) (done : List Data) (env : List Data) (u : ℕ) → all_values functions done exprs.end env u ≡ result done u
all_values_end functions done env u = ap (λ ys. let same : Evaluated (List Data) = result ys u in same) (append-nil done)

pub all_values_begin : (functions : List FunctionData) (es : ExprsData) (env : List Data) (u : ℕ) → all_values functions [] es env u ≡ mean_all (calling functions) es env u
all_values_begin functions es env u = itself (mean_all (calling functions) es env u)
  where
    itself : (r : Evaluated (List Data)) → and_then r (λ xs v. result xs v) ≡ r
    itself (result xs u) = refl
    itself (crash c) = refl

-- what goes on with the number that was found goes on with its value
pub number_then : {S : Type 0} (r : Evaluated Data) (n : ℤ) (v : ℕ) (go : ℤ → ℕ → Evaluated S) →
    result n v ≡ and_then r (λ x u. result (number_of x) u) → and_then r (λ x u. go (number_of x) u) ≡ go n v
number_then (result x u) n v go e = sym (ap (λ t. and_then t go) e)
number_then (crash c) n v go e = sym (ap (λ t. and_then t go) e)
