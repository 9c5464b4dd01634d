-- A drawing looks at calls with no more units than it has, and leaves no more.
use Rattle.std.proofs.Common.{◌≡◌, ℕ, zero, suc, ◌+◌, ◌-◌, ◌≤◌, List, [], ◌∷◌, ◌++◌, Option, Some, None, nat_lt, refl, arith, le_refl, le_trans, ◌≢◌, sub-one, slice_get, length}
use Rattle.qk_base.specs.declared.outcome.Cause.TheVariants.{Fuel}
use Rattle.qk_core.specs.Definitions.{FunctionData, UserGenData}
use Rattle.qk_core.specs.ExprData.{ExprData, exprs_of}
use Rattle.qk_core.specs.GenData.{GenData, GensData, WeightedsData}
use Rattle.qk_core.specs.GenData as gens
use Rattle.qk_eval.specs.Meaning.{crash, meaning}
use Rattle.qk_eval.specs.Parts.{number_of, small}
use Rattle.qk_eval.proofs.UnitsLaws.{Within, Alike, wider, both_alike, if_alike, crash_alike, meaning_within, all_within}
use Rattle.qk_gen.specs.Drawing.{length_of, size_of, place, up_to, gens_count, total_weight, Draws, elements, vector, Calls, one_expr, draws, draws_at, draws_reached, draws_each, draws_body, body_of, calls_within, drawing_call, drawing, drawn}
use Rattle.qk_splitmix.specs.SplitMix.{Generator, left, right}
use Rattle.qk_value.specs.Data.{Data, list, pair, made, datas_of}
use Rattle.qk_value.specs.Measures.{weight}

meaning_alike : (functions : List FunctionData) (e : ExprData) (env : List Data) (u : ℕ) → Alike (meaning functions e env u) (meaning functions e env u) u
meaning_alike functions e env u = (refl, meaning_within functions e env u)

one_alike : (functions : List FunctionData) (o : Option ExprData) (env : List Data) (u : ℕ) → Alike (one_expr functions o env u) (one_expr functions o env u) u
one_alike functions None env u = (refl, le_refl u)
one_alike functions (Some e) env u = meaning_alike functions e env u

elements_alike : (c d : Draws Data) (most : ℕ) → ((g : Generator) (u : ℕ) → u ≤ most → Alike (c g u) (d g u) u) → (n weighed : ℕ) (g : Generator) (u : ℕ) → u ≤ most → Alike (elements c n weighed g u) (elements d n weighed g u) u
elements_alike c d most same zero weighed g u h = (refl, le_refl u)
elements_alike c d most same (suc n) weighed g u h =
    both_alike _ _ _ _ u (same (left g) u h) (λ x v l.
    if_alike (nat_lt 65536 (weighed + weight x)) _ _ _ _ v (refl, tt)
    (both_alike _ _ _ _ v (elements_alike c d most same n (weighed + weight x) (right g) v (le_trans l h)) (λ xs w m. (refl, le_refl w))))

vector_alike : (c d : Draws Data) (most : ℕ) → ((g : Generator) (u : ℕ) → u ≤ most → Alike (c g u) (d g u) u) → (n : ℕ) (g : Generator) (u : ℕ) → u ≤ most → Alike (vector c n g u) (vector d n g u) u
vector_alike c d most same n g u h =
    if_alike (nat_lt 65535 n) _ _ _ _ u (refl, tt)
    (both_alike _ _ _ _ u (elements_alike c d most same n 1 g u h) (λ xs v l. crash_alike (small (list (datas_of xs))) v))

module _ (functions : List FunctionData) (c d : Calls) (most : ℕ) (same : (f : ℕ) (args : List Data) (size : ℕ) (g : Generator) (u : ℕ) → u ≤ most → Alike (c f args size g u) (d f args size g u) u) where
  mutual
    pub alike : (e : GenData) (env : List Data) (size : ℕ) (g : Generator) (u : ℕ) → u ≤ most → Alike (draws functions c e env size g u) (draws functions d e env size g u) u
    alike gens.any_number env size g u h = (refl, le_refl u)
    alike gens.any_truth env size g u h = (refl, le_refl u)
    alike gens.size env size g u h = (refl, le_refl u)
    alike (gens.choose a b) env size g u h = both_alike _ _ _ _ u (meaning_alike functions a env u) (λ x v l. both_alike _ _ _ _ v (meaning_alike functions b env v) (λ y w m. (refl, le_refl w)))
    alike (gens.list e) env size g u h = vector_alike _ _ most (λ k v l. alike e env size k v l) _ (right g) u h
    alike (gens.vector a e) env size g u h = both_alike _ _ _ _ u (meaning_alike functions a env u) (λ x v l. vector_alike _ _ most (λ k w m. alike e env size k w m) (length_of (number_of x)) g v (le_trans l h))
    alike (gens.pair a b) env size g u h = both_alike _ _ _ _ u (alike a env size (left g) u h) (λ x v l. both_alike _ _ _ _ v (alike b env size (right g) v (le_trans l h)) (λ y w m. crash_alike (small (pair x y)) w))
    alike (gens.elements es) env size g u h = one_alike functions (slice_get es (place g (length es))) env u
    alike (gens.one_of es) env size g u h = alike_at es (place (left g) (gens_count es)) env size (right g) u h
    alike (gens.frequency parts) env size g u h = alike_reached parts (up_to (left g) (total_weight parts)) env size (right g) u h
    alike (gens.resize a e) env size g u h = both_alike _ _ _ _ u (meaning_alike functions a env u) (λ x v l. alike e env (size_of (number_of x)) g v (le_trans l h))
    alike (gens.bind a b) env size g u h = both_alike _ _ _ _ u (alike a env size (left g) u h) (λ x v l. alike b (env ++ x ∷ []) size (right g) v (le_trans l h))
    alike (gens.pure a) env size g u h = meaning_alike functions a env u
    alike (gens.making k m es) env size g u h = both_alike _ _ _ _ u (alike_each es env size g u h) (λ xs v l. crash_alike (small (made k m (datas_of xs))) v)
    alike (gens.call f args) env size g u h = both_alike _ _ _ _ u (refl, all_within functions (exprs_of args) env u) (λ xs v l. same f xs size g v (le_trans l h))

    alike_at : (es : GensData) (n : ℕ) (env : List Data) (size : ℕ) (g : Generator) (u : ℕ) → u ≤ most → Alike (draws_at functions c es n env size g u) (draws_at functions d es n env size g u) u
    alike_at gens.end n env size g u h = (refl, le_refl u)
    alike_at (gens.more e es) zero env size g u h = alike e env size g u h
    alike_at (gens.more e es) (suc n) env size g u h = alike_at es n env size g u h

    alike_reached : (parts : WeightedsData) (n : ℕ) (env : List Data) (size : ℕ) (g : Generator) (u : ℕ) → u ≤ most → Alike (draws_reached functions c parts n env size g u) (draws_reached functions d parts n env size g u) u
    alike_reached gens.no_weighted n env size g u h = (refl, le_refl u)
    alike_reached (gens.more_weighted w e parts) n env size g u h = if_alike (nat_lt w n) _ _ _ _ u (alike_reached parts (n - w) env size g u h) (alike e env size g u h)

    alike_each : (es : GensData) (env : List Data) (size : ℕ) (g : Generator) (u : ℕ) → u ≤ most → Alike (draws_each functions c es env size g u) (draws_each functions d es env size g u) u
    alike_each gens.end env size g u h = (refl, le_refl u)
    alike_each (gens.more e es) env size g u h = both_alike _ _ _ _ u (alike e env size (left g) u h) (λ x v l. both_alike _ _ _ _ v (alike_each es env size (right g) v (le_trans l h)) (λ xs w m. (refl, le_refl w)))

  pub alike_body : (body : Option GenData) (env : List Data) (size : ℕ) (g : Generator) (u : ℕ) → u ≤ most → Alike (draws_body functions c body env size g u) (draws_body functions d body env size g u) u
  alike_body None env size g u h = (refl, le_refl u)
  alike_body (Some e) env size g u h = alike e env size g u h

-- a call is the same at any depth that its units do not pass
calls_alike : (functions : List FunctionData) (generators : List UserGenData) (n m f : ℕ) (args : List Data) (size : ℕ) (g : Generator) (u : ℕ) → u ≤ n → u ≤ m → Alike (calls_within functions generators n f args size g u) (calls_within functions generators m f args size g u) u
calls_alike functions generators n m f args size g zero h k = (refl, tt)
calls_alike functions generators zero m f args size g (suc u) h k = absurd (omega arith)
calls_alike functions generators (suc n) zero f args size g (suc u) h k = absurd (omega arith)
calls_alike functions generators (suc n) (suc m) f args size g (suc u) h k =
    let inner = alike_body functions (calls_within functions generators n) (calls_within functions generators m) u (λ f args size g v l. calls_alike functions generators n m f args size g v (omega arith) (omega arith)) (body_of generators f) args size g u (le_refl u) in
    (inner.0, wider (calls_within functions generators (suc n) f args size g (suc u)) u (suc u) (omega arith) inner.1)

-- what a call draws, with no word of the depth
pub drawing_drawn : (functions : List FunctionData) (generators : List UserGenData) (f : ℕ) (args : List Data) (size : ℕ) (g : Generator) (u : ℕ) → drawing_call functions generators f args size g u ≡ drawn functions generators f args size g u
unfolding drawing_call
drawing_drawn functions generators f args size g zero = refl
drawing_drawn functions generators f args size g (suc u) =
    (alike_body functions (calls_within functions generators u) (drawing_call functions generators) u (λ f args size g v l. calls_alike functions generators u v f args size g v l (le_refl v)) (body_of generators f) args size g u (le_refl u)).0

pub drawing_zero : (functions : List FunctionData) (generators : List UserGenData) (f : ℕ) (args : List Data) (size : ℕ) (g : Generator) → drawing_call functions generators f args size g 0 ≡ crash Fuel
drawing_zero functions generators f args size g = drawing_drawn functions generators f args size g 0

pub drawing_some : (functions : List FunctionData) (generators : List UserGenData) (f : ℕ) (args : List Data) (size : ℕ) (g : Generator) (u : ℕ) → u ≢ 0 → drawing_call functions generators f args size g u ≡ draws_body functions (drawing_call functions generators) (body_of generators f) args size g (u - 1)
drawing_some functions generators f args size g zero h = absurd (h refl)
drawing_some functions generators f args size g (suc u) h = rw sub-one (drawing_drawn functions generators f args size g (suc u))

call_within : (functions : List FunctionData) (generators : List UserGenData) (f : ℕ) (args : List Data) (size : ℕ) (g : Generator) (u : ℕ) → Within (drawing_call functions generators f args size g u) u
unfolding drawing_call
call_within functions generators f args size g u = (calls_alike functions generators u u f args size g u (le_refl u) (le_refl u)).1

pub drawn_within : (functions : List FunctionData) (generators : List UserGenData) (f : ℕ) (args : List Data) (size : ℕ) (g : Generator) (u : ℕ) → Within (drawn functions generators f args size g u) u
drawn_within functions generators f args size g u = rw drawing_drawn at (call_within functions generators f args size g u)

pub drawing_within : (functions : List FunctionData) (generators : List UserGenData) (e : GenData) (env : List Data) (size : ℕ) (g : Generator) (u : ℕ) → Within (drawing functions generators e env size g u) u
drawing_within functions generators e env size g u =
    (alike functions (drawing_call functions generators) (drawing_call functions generators) u (λ f args size g v l. (refl, call_within functions generators f args size g v)) e env size g u (le_refl u)).1
