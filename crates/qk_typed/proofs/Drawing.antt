-- A typed generator draws values of its type.
use Rattle.std.proofs.Common.{◌≡◌, ℕ, zero, suc, ◌+◌, ◌-◌, ◌<◌, ◌≤◌, nat_lt, IsTrue, List, [], ◌∷◌, ◌++◌, length, Option, Some, slice_get, option_map, refl, sym, ap, subst, arith}
use Rattle.qk_base.specs.declared.outcome.Cause.TheVariants.{Weight}
use Rattle.qk_core.specs.Definitions.{FunctionData, UserGenData}
use Rattle.qk_core.specs.ExprData.{ExprData, exprs_of}
use Rattle.qk_core.specs.GenData.{GenData, GensData, WeightedsData}
use Rattle.qk_core.specs.GenData as gens
use Rattle.qk_eval.specs.Meaning.{result, crash, and_then, or_crash, mean_all, calling, meaning}
use Rattle.qk_eval.specs.Parts.{number_of, small}
use Rattle.qk_gen.specs.Drawing.{length_of, size_of, place, up_to, gens_count, total_weight, Draws, elements, vector, Calls, one_expr, draws, draws_at, draws_reached, draws_each, draws_body, body_of, calls_within, drawing_call, drawing, drawn}
use Rattle.qk_splitmix.specs.SplitMix.{Generator, left, right}
use Rattle.qk_value.specs.Data.{Data, list, pair, made, datas_of}
use Rattle.qk_value.specs.Kinds.{KindData}
use Rattle.qk_value.specs.Measures.{weight}
use Rattle.qk_value.specs.Types.{TypeData, int_type, bool_type, list_type, pair_type, made_type}
use Rattle.qk_value.specs.Typing.{has_type, all_have_type}
use Rattle.qk_shrink.proofs.TypedLaws.{conj}
use Rattle.qk_typed.specs.TypedExpressions.{IsTyped}
use Rattle.qk_typed.specs.TypedGenerators.{IsGenerator, AllTyped, DrawsType, DrawTypes, AllDrawType, AllPartsDrawType}
use Rattle.qk_typed.specs.TypedValues.{HasType, HaveTypes, IfResult, GivesType}
use Rattle.qk_typed.proofs.Places.{place_below, up_to_within}
use Rattle.qk_typed.proofs.Typing.{then_gives, if_gives, pick_gives, small_gives, as_type, BodiesAreTyped, meaning_gives, meanings_give}
use Rattle.qk_typed.proofs.ValueTypes.{one_more, made_has}

-- items of one type
abbrev Items : List KindData → TypeData → List Data → Type 0
Items kinds t xs = IsTrue (all_have_type kinds t (datas_of xs))

elements_give : (kinds : List KindData) (t : TypeData) (draw : Draws Data) → ((g : Generator) (u : ℕ) → GivesType kinds t (draw g u)) → (n weighed : ℕ) (g : Generator) (u : ℕ) → IfResult (elements draw n weighed g u) (Items kinds t)
elements_give kinds t draw typed zero weighed g u = refl
elements_give kinds t draw typed (suc n) weighed g u =
    then_gives (HasType kinds t) (Items kinds t) (draw (left g) u) _ (typed (left g) u) (λ x v k.
    if_gives (Items kinds t) (nat_lt 65536 (weighed + weight x)) (crash Weight) (and_then (elements draw n (weighed + weight x) (right g) v) (λ xs w. result (x ∷ xs) w)) tt
    (then_gives (Items kinds t) (Items kinds t) (elements draw n (weighed + weight x) (right g) v) _ (elements_give kinds t draw typed n (weighed + weight x) (right g) v) (λ xs w j. conj (has_type kinds t x) (all_have_type kinds t (datas_of xs)) k j)))

vector_gives : (kinds : List KindData) (t : TypeData) (draw : Draws Data) → ((g : Generator) (u : ℕ) → GivesType kinds t (draw g u)) → (n : ℕ) (g : Generator) (u : ℕ) → GivesType kinds (list_type t) (vector draw n g u)
vector_gives kinds t draw typed n g u =
    if_gives (HasType kinds (list_type t)) (nat_lt 65535 n) (crash Weight) (and_then (elements draw n 1 g u) (λ xs v. or_crash (small (list (datas_of xs))) v)) tt
    (then_gives (Items kinds t) (HasType kinds (list_type t)) (elements draw n 1 g u) _ (elements_give kinds t draw typed n 1 g u) (λ xs v k. small_gives (HasType kinds (list_type t)) (list (datas_of xs)) v k))

module _ (kinds : List KindData) (functions : List FunctionData) (typed : BodiesAreTyped kinds functions) (generators : List UserGenData) where
  means : (e : ExprData) (ts : List TypeData) (t : TypeData) (env : List Data) (u : ℕ) → HaveTypes kinds ts env → IsTyped kinds functions ts e t → GivesType kinds t (meaning functions e env u)
  means e ts t env u h w = meaning_gives kinds functions typed e ts t env u h w

  one_gives : (es : List ExprData) (n : ℕ) (ts : List TypeData) (t : TypeData) (env : List Data) (u : ℕ) → n < length es → HaveTypes kinds ts env → AllTyped kinds functions generators ts es t → GivesType kinds t (one_expr functions (slice_get es n) env u)
  one_gives [] n ts t env u l h w = absurd (omega (arith, l))
  one_gives (e ∷ es) zero ts t env u l h w = means e ts t env u h w.0
  one_gives (e ∷ es) (suc n) ts t env u l h w = one_gives es n ts t env u (omega (arith, l)) h w.1

  module _ (calls : Calls) (calls_give : (f : ℕ) (ts : List TypeData) (t : TypeData) (xs : List Data) (size : ℕ) (g : Generator) (u : ℕ) → IsGenerator generators f ts t → HaveTypes kinds ts xs → GivesType kinds t (calls f xs size g u)) where
    mutual
      draw_gives : (e : GenData) (ts : List TypeData) (t : TypeData) (env : List Data) (size : ℕ) (g : Generator) (u : ℕ) → HaveTypes kinds ts env → DrawsType kinds functions generators ts e t → GivesType kinds t (draws functions calls e env size g u)
      draw_gives gens.any_number ts t env size g u h w = as_type kinds int_type t (draws functions calls gens.any_number env size g u) w refl
      draw_gives gens.any_truth ts t env size g u h w = as_type kinds bool_type t (draws functions calls gens.any_truth env size g u) w refl
      draw_gives gens.size ts t env size g u h w = as_type kinds int_type t (draws functions calls gens.size env size g u) w refl
      draw_gives (gens.choose a b) ts t env size g u h w =
          as_type kinds int_type t (draws functions calls (gens.choose a b) env size g u) w.2
          (then_gives (HasType kinds int_type) (HasType kinds int_type) (meaning functions a env u) _ (means a ts int_type env u h w.0) (λ x v k.
          then_gives (HasType kinds int_type) (HasType kinds int_type) (meaning functions b env v) _ (means b ts int_type env v h w.1) (λ y z j. refl)))
      draw_gives (gens.list e) ts t env size g u h w =
          as_type kinds (list_type w.0) t (draws functions calls (gens.list e) env size g u) w.2
          (vector_gives kinds w.0 (λ k v. draws functions calls e env size k v) (λ k v. draw_gives e ts w.0 env size k v h w.1) _ (right g) u)
      draw_gives (gens.vector a e) ts t env size g u h w =
          let item = w.1.0 in
          as_type kinds (list_type item) t (draws functions calls (gens.vector a e) env size g u) w.1.2
          (then_gives (HasType kinds int_type) (HasType kinds (list_type item)) (meaning functions a env u) _ (means a ts int_type env u h w.0) (λ x v j.
          vector_gives kinds item (λ k z. draws functions calls e env size k z) (λ k z. draw_gives e ts item env size k z h w.1.1) (length_of (number_of x)) g v))
      draw_gives (gens.pair d e) ts t env size g u h w =
          as_type kinds (pair_type w.0 w.1) t (draws functions calls (gens.pair d e) env size g u) w.4
          (then_gives (HasType kinds w.0) (HasType kinds (pair_type w.0 w.1)) (draws functions calls d env size (left g) u) _ (draw_gives d ts w.0 env size (left g) u h w.2) (λ x v k.
          then_gives (HasType kinds w.1) (HasType kinds (pair_type w.0 w.1)) (draws functions calls e env size (right g) v) _ (draw_gives e ts w.1 env size (right g) v h w.3) (λ y z j.
          small_gives (HasType kinds (pair_type w.0 w.1)) (pair x y) z (conj (has_type kinds w.0 x) (has_type kinds w.1 y) k j))))
      draw_gives (gens.elements es) ts t env size g u h w = one_gives es (place g (length es)) ts t env u (place_below g (length es) w.0) h w.1
      draw_gives (gens.one_of es) ts t env size g u h w = at_gives es (place (left g) (gens_count es)) ts t env size (right g) u (place_below (left g) (gens_count es) w.0) h w.1
      draw_gives (gens.frequency parts) ts t env size g u h w =
          let reached = up_to_within (left g) (total_weight parts) w.0 in
          reached_gives parts (up_to (left g) (total_weight parts)) ts t env size (right g) u reached.0 reached.1 h w.1
      draw_gives (gens.resize a e) ts t env size g u h w =
          then_gives (HasType kinds int_type) (HasType kinds t) (meaning functions a env u) _ (means a ts int_type env u h w.0) (λ x v k. draw_gives e ts t env (size_of (number_of x)) g v h w.1)
      draw_gives (gens.bind d e) ts t env size g u h w =
          then_gives (HasType kinds w.0) (HasType kinds t) (draws functions calls d env size (left g) u) _ (draw_gives d ts w.0 env size (left g) u h w.1) (λ x v k.
          draw_gives e (ts ++ w.0 ∷ []) t (env ++ x ∷ []) size (right g) v (one_more kinds ts env w.0 x h k) w.2)
      draw_gives (gens.pure a) ts t env size g u h w = means a ts t env u h w
      draw_gives (gens.making k m es) ts t env size g u h w =
          as_type kinds (made_type k) t (draws functions calls (gens.making k m es) env size g u) w.3
          (then_gives (HaveTypes kinds w.0) (HasType kinds (made_type k)) (draws_each functions calls es env size g u) _ (each_gives es ts w.0 env size g u h w.2) (λ xs v j.
          small_gives (HasType kinds (made_type k)) (made k m (datas_of xs)) v (made_has kinds k m w.0 xs w.1 j)))
      draw_gives (gens.call f args) ts t env size g u h w =
          then_gives (HaveTypes kinds w.0) (HasType kinds t) (mean_all (calling functions) (exprs_of args) env u) _ (meanings_give kinds functions typed (exprs_of args) ts w.0 env u h w.2) (λ xs v k.
          calls_give f w.0 t xs size g v w.1 k)

      at_gives : (es : GensData) (n : ℕ) (ts : List TypeData) (t : TypeData) (env : List Data) (size : ℕ) (g : Generator) (u : ℕ) → n < gens_count es → HaveTypes kinds ts env → AllDrawType kinds functions generators ts es t → GivesType kinds t (draws_at functions calls es n env size g u)
      at_gives gens.end n ts t env size g u l h w = absurd (omega (arith, l))
      at_gives (gens.more e es) zero ts t env size g u l h w = draw_gives e ts t env size g u h w.0
      at_gives (gens.more e es) (suc n) ts t env size g u l h w = at_gives es n ts t env size g u (omega (arith, l)) h w.1

      reached_gives : (parts : WeightedsData) (n : ℕ) (ts : List TypeData) (t : TypeData) (env : List Data) (size : ℕ) (g : Generator) (u : ℕ) → 1 ≤ n → n ≤ total_weight parts → HaveTypes kinds ts env → AllPartsDrawType kinds functions generators ts parts t → GivesType kinds t (draws_reached functions calls parts n env size g u)
      reached_gives gens.no_weighted n ts t env size g u some l h w = absurd (omega (arith, some, l))
      reached_gives (gens.more_weighted a e parts) n ts t env size g u some l h w =
          pick_gives (HasType kinds t) (nat_lt a n) (draws_reached functions calls parts (n - a) env size g u) (draws functions calls e env size g u)
          (λ yes. reached_gives parts (n - a) ts t env size g u (let more : a < n = grind (arith, yes) in omega (arith, more)) (omega (arith, l)) h w.1)
          (λ other. draw_gives e ts t env size g u h w.0)

      each_gives : (es : GensData) (ts us : List TypeData) (env : List Data) (size : ℕ) (g : Generator) (u : ℕ) → HaveTypes kinds ts env → DrawTypes kinds functions generators ts es us → IfResult (draws_each functions calls es env size g u) (HaveTypes kinds us)
      each_gives gens.end ts [] env size g u h w = tt
      each_gives gens.end ts (s ∷ us) env size g u h w = absurd w
      each_gives (gens.more e es) ts [] env size g u h w = absurd w
      each_gives (gens.more e es) ts (s ∷ us) env size g u h w =
          then_gives (HasType kinds s) (HaveTypes kinds (s ∷ us)) (draws functions calls e env size (left g) u) _ (draw_gives e ts s env size (left g) u h w.0) (λ x v k.
          then_gives (HaveTypes kinds us) (HaveTypes kinds (s ∷ us)) (draws_each functions calls es env size (right g) v) _ (each_gives es ts us env size (right g) v h w.1) (λ xs z j. (k, j)))

  -- each generator's body draws values of its type
  module _ (drawn_typed : (f : ℕ) (generator : UserGenData) → slice_get generators f ≡ Some generator → DrawsType kinds functions generators generator.params generator.body generator.result) where
    body_gives : (calls : Calls)
        → ((f : ℕ) (ts : List TypeData) (t : TypeData) (xs : List Data) (size : ℕ) (g : Generator) (u : ℕ) → IsGenerator generators f ts t → HaveTypes kinds ts xs → GivesType kinds t (calls f xs size g u))
        → (f : ℕ) (generator : UserGenData) (xs : List Data) (size : ℕ) (g : Generator) (u : ℕ) → slice_get generators f ≡ Some generator → HaveTypes kinds generator.params xs → GivesType kinds generator.result (draws_body functions calls (body_of generators f) xs size g u)
    body_gives calls calls_give f generator xs size g u e h =
        let here : Some generator.body ≡ body_of generators f = sym (ap (option_map (λ (d : UserGenData). d.body)) e) in
        subst (λ (o : Option GenData). GivesType kinds generator.result (draws_body functions calls o xs size g u)) here
        (draw_gives calls calls_give generator.body generator.params generator.result xs size g u h (drawn_typed f generator e))

    within_give : (n f : ℕ) (ts : List TypeData) (t : TypeData) (xs : List Data) (size : ℕ) (g : Generator) (u : ℕ) → IsGenerator generators f ts t → HaveTypes kinds ts xs → GivesType kinds t (calls_within functions generators n f xs size g u)
    within_give n f ts t xs size g zero w h = tt
    within_give zero f ts t xs size g (suc u) w h = tt
    within_give (suc n) f ts t xs size g (suc u) w h =
        let args : HaveTypes kinds w.0.params xs = subst (λ (us : List TypeData). HaveTypes kinds us xs) (sym w.2) h in
        as_type kinds w.0.result t (calls_within functions generators (suc n) f xs size g (suc u)) (sym w.3)
        (body_gives (calls_within functions generators n) (λ f ts t xs size g u w h. within_give n f ts t xs size g u w h) f w.0 xs size g u w.1 args)

    call_gives : (f : ℕ) (ts : List TypeData) (t : TypeData) (xs : List Data) (size : ℕ) (g : Generator) (u : ℕ) → IsGenerator generators f ts t → HaveTypes kinds ts xs → GivesType kinds t (drawing_call functions generators f xs size g u)
    unfolding drawing_call
    call_gives f ts t xs size g u w h = within_give u f ts t xs size g u w h

    pub drawing_gives : (e : GenData) (ts : List TypeData) (t : TypeData) (env : List Data) (size : ℕ) (g : Generator) (u : ℕ) → HaveTypes kinds ts env → DrawsType kinds functions generators ts e t → GivesType kinds t (drawing functions generators e env size g u)
    drawing_gives e ts t env size g u h w = draw_gives (drawing_call functions generators) call_gives e ts t env size g u h w

    pub drawn_gives : (f : ℕ) (generator : UserGenData) (xs : List Data) (size : ℕ) (g : Generator) (u : ℕ) → slice_get generators f ≡ Some generator → HaveTypes kinds generator.params xs → GivesType kinds generator.result (drawn functions generators f xs size g u)
    drawn_gives f generator xs size g zero e h = tt
    drawn_gives f generator xs size g (suc u) e h = body_gives (drawing_call functions generators) call_gives f generator xs size g u e h
