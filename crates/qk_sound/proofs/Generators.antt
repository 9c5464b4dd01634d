-- What trees are as generators is typed.
use Rattle.std.specs.Prelude.{codes, sum_by, option_and_then}
use Rattle.std.proofs.Common.{◌≡◌, ◌∙◌, ℕ, ◌+◌, List, [], ◌∷◌, Option, Some, None, slice_get, refl, sym, ap, subst, arith}
use Rattle.std.proofs.lemmas.List.Sums.{sum_by-cons}
use Rattle.qk_core.specs.Definitions.{FunctionData, UserGenData}
use Rattle.qk_core.specs.ExprData.{ExprData, exprs_of}
use Rattle.qk_core.specs.GenData.{GenData, gens_of, weighteds_of}
use Rattle.qk_gen.specs.Drawing.{total_weight}
use Rattle.qk_generators.specs.Drawing.{GenForm, values, draws, sized, frequency, bind, OfValues, choose, elements, pure, call, OfDraws, list as of_list, pair as of_pair, one_of, made, Sized, vector, resize, gen_forms, gen_form_by, declared_gen, generator_of}
use Rattle.qk_headers.specs.Scopes.{Scope, types_of, bind as with_variable}
use Rattle.qk_names.specs.Names.{Declared, named_by}
use Rattle.qk_names.specs.Reserved.{Word, entry_of}
use Rattle.qk_names.specs.declared.names.Named.{Named}
use Rattle.qk_names.specs.declared.names.Named.TheVariants as named
use Rattle.qk_syntax.specs.PlainTrees.{PlainTree, number, name, list, PlainTrees, end, more}
use Rattle.qk_typed.specs.TypedExpressions.{IsTyped, AreTyped}
use Rattle.qk_typed.specs.TypedGenerators.{IsGenerator, AllTyped, DrawsType, DrawTypes, AllDrawType, AllPartsDrawType}
use Rattle.qk_typed.specs.WellTyped.{Each}
use Rattle.qk_typing.specs.Operators.{Tables}
use Rattle.qk_value.specs.Types.{TypeData, int_type, bool_type}
use Rattle.qk_wellformed.specs.GeneratorTypes.{AllAre, ValuesTypes, DrawsTypes, SizedTypes, IsOfValues, IsOfDraws, IsSizedBy}
use Rattle.qk_wellformed.specs.IsGenerator.{IsGenerator as IsTreeGenerator, AreGenerators, IsSized, IsBind, AreWeighed, plain_generator}
use Rattle.qk_sound.proofs.Expressions.{expression_typed, expressions_typed}
use Rattle.qk_sound.proofs.Found.{entry_holds}
use Rattle.qk_sound.proofs.Operators.{is_maker}
use Rattle.qk_sound.proofs.Stands.{Fits}
use Rattle.qk_sound.proofs.TreeTypes.{bound_types}

-- forms of the language itself are of no declared name
abbrev IsOwn : GenForm → Type 0
IsOwn (values choose) = Unit {0}
IsOwn (values elements) = Unit {0}
IsOwn (values pure) = Unit {0}
IsOwn (values (call g)) = ⊥
IsOwn (draws of_list) = Unit {0}
IsOwn (draws of_pair) = Unit {0}
IsOwn (draws one_of) = Unit {0}
IsOwn (draws (made k m)) = ⊥
IsOwn (sized f) = Unit {0}
IsOwn frequency = Unit {0}
IsOwn bind = Unit {0}

own_forms : Each (λ (e : Word × GenForm). IsOwn e.1) gen_forms
own_forms = (tt, (tt, (tt, (tt, (tt, (tt, (tt, (tt, (tt, (tt, tt))))))))))

maker_declared : (what : Option Named) (k m : ℕ) → option_and_then declared_gen what ≡ Some (draws (made k m)) → what ≡ Some (named.Maker k m)
maker_declared None k m e = cc
maker_declared (Some (named.Maker i j)) k m e = cc
maker_declared (Some (named.Function f)) k m e = cc
maker_declared (Some (named.Kind i)) k m e = cc
maker_declared (Some (named.Generator i)) k m e = cc
maker_declared (Some (named.Model i)) k m e = cc
maker_declared (Some (named.Property i)) k m e = cc

generator_declared : (what : Option Named) (g : ℕ) → option_and_then declared_gen what ≡ Some (values (call g)) → what ≡ Some (named.Generator g)
generator_declared None g e = cc
generator_declared (Some (named.Maker i j)) g e = cc
generator_declared (Some (named.Function f)) g e = cc
generator_declared (Some (named.Kind i)) g e = cc
generator_declared (Some (named.Generator i)) g e = cc
generator_declared (Some (named.Model i)) g e = cc
generator_declared (Some (named.Property i)) g e = cc

form_is : (form g : GenForm) → Some form ≡ Some g → form ≡ g
form_is form g e = cc

maker_by : (names : List Declared) (w : Word) (o : Option GenForm) (k m : ℕ) → ((form : GenForm) → o ≡ Some form → IsOwn form) → gen_form_by names w o ≡ Some (draws (made k m)) → named_by names w ≡ Some (named.Maker k m)
maker_by names w (Some form) k m own e = absurd (subst IsOwn (form_is form (draws (made k m)) e) (own form refl))
maker_by names w None k m own e = maker_declared (named_by names w) k m e

generator_by : (names : List Declared) (w : Word) (o : Option GenForm) (g : ℕ) → ((form : GenForm) → o ≡ Some form → IsOwn form) → gen_form_by names w o ≡ Some (values (call g)) → named_by names w ≡ Some (named.Generator g)
generator_by names w (Some form) g own e = absurd (subst IsOwn (form_is form (values (call g)) e) (own form refl))
generator_by names w None g own e = generator_declared (named_by names w) g e

module _ (d : Tables) (functions : List FunctionData) (generators : List UserGenData) (fits : Fits d functions generators) where
  abbrev Typed : List TypeData → ExprData → TypeData → Type 0
  Typed env e t = IsTyped d.headers.kinds functions env e t

  abbrev Draws : List TypeData → GenData → TypeData → Type 0
  Draws env g t = DrawsType d.headers.kinds functions generators env g t

  as_gen : (env : List TypeData) (g f : GenData) (t : TypeData) → g ≡ f → Draws env f t → Draws env g t
  as_gen env g f t is h = subst (λ (x : GenData). Draws env x t) (sym is) h

  as_typed : (env : List TypeData) (e : ExprData) (t u : TypeData) → t ≡ u → Typed env e t → Typed env e u
  as_typed env e t u is h = subst (Typed env e) is h

  as_drawn : (env : List TypeData) (g : GenData) (t u : TypeData) → t ≡ u → Draws env g t → Draws env g u
  as_drawn env g t u is h = subst (Draws env g) is h

  plain_draws : (env : List TypeData) → Each (λ (e : Word × (TypeData × GenData)). Draws env e.1.1 e.1.0) ((codes "int", (int_type, GenData.any_number)) ∷ (codes "bool", (bool_type, GenData.any_truth)) ∷ (codes "size", (int_type, GenData.size)) ∷ [])
  plain_draws env = (refl, (refl, (refl, tt)))

  lone : (env : List TypeData) (w : Word) (t : TypeData) (g : GenData) → plain_generator w ≡ Some (t, g) → Draws env g t
  lone env w t g h =
      entry_holds (λ (x : TypeData × GenData). Draws env x.1 x.0) ((codes "int", (int_type, GenData.any_number)) ∷ (codes "bool", (bool_type, GenData.any_truth)) ∷ (codes "size", (int_type, GenData.size)) ∷ []) w (t, g) (plain_draws env) h

  module _ (env : List TypeData) (w : Word) where
    all_typed : (es : List ExprData) (ts : List TypeData) (t : TypeData) → AreTyped d.headers.kinds functions env (exprs_of es) ts → AllAre t ts → AllTyped d.headers.kinds functions generators env es t
    all_typed [] ts t h same = tt
    all_typed (e ∷ es) [] t h same = absurd h
    all_typed (e ∷ es) (u ∷ ts) t h same = (as_typed env e u t same.0 h.0, all_typed es ts t h.1 same.1)

    all_draw : (gs : List GenData) (ts : List TypeData) (t : TypeData) → DrawTypes d.headers.kinds functions generators env (gens_of gs) ts → AllAre t ts → AllDrawType d.headers.kinds functions generators env (gens_of gs) t
    all_draw [] ts t h same = tt
    all_draw (g ∷ gs) [] t h same = absurd h
    all_draw (g ∷ gs) (u ∷ ts) t h same = (as_drawn env g u t same.0 h.0, all_draw gs ts t h.1 same.1)

    choose_typed : (ts : List TypeData) (es : List ExprData) (t : TypeData) (g : GenData) → AreTyped d.headers.kinds functions env (exprs_of es) ts → ValuesTypes d.headers choose ts t → IsOfValues choose es g → Draws env g t
    choose_typed (a ∷ b ∷ []) (x ∷ y ∷ []) t g all fit is = as_gen env g (GenData.choose x y) t is (as_typed env x a int_type fit.0 all.0, as_typed env y b int_type fit.1 all.1.0, fit.2)
    choose_typed (a ∷ b ∷ []) es t g all fit is = absurd is
    choose_typed ts es t g all fit is = absurd fit

    elements_typed : (ts : List TypeData) (es : List ExprData) (t : TypeData) (g : GenData) → AreTyped d.headers.kinds functions env (exprs_of es) ts → ValuesTypes d.headers elements ts t → IsOfValues elements es g → Draws env g t
    elements_typed (a ∷ ts) [] t g all fit is = absurd all
    elements_typed (a ∷ ts) (x ∷ es) t g all fit is = as_gen env g (GenData.elements (x ∷ es)) t is (omega arith, all_typed (x ∷ es) (a ∷ ts) t all fit)
    elements_typed ts es t g all fit is = absurd fit

    pure_typed : (ts : List TypeData) (es : List ExprData) (t : TypeData) (g : GenData) → AreTyped d.headers.kinds functions env (exprs_of es) ts → ValuesTypes d.headers pure ts t → IsOfValues pure es g → Draws env g t
    pure_typed (a ∷ []) (x ∷ []) t g all fit is = as_gen env g (GenData.pure x) t is (as_typed env x a t (sym fit) all.0)
    pure_typed (a ∷ []) es t g all fit is = absurd is
    pure_typed ts es t g all fit is = absurd fit

    is_generator : (g : ℕ) (ts : List TypeData) (t : TypeData) → named_by d.names w ≡ Some (named.Generator g) → ts ≡ types_of (generator_of d.headers g).params → t ≡ (generator_of d.headers g).result → IsGenerator generators g ts t
    is_generator g ts t known takes gives =
        let found : (generator : UserGenData) × (slice_get generators g ≡ Some generator) × (generator.params ≡ types_of (generator_of d.headers g).params) × (generator.result ≡ (generator_of d.headers g).result) =
        fits.generator_at g (fits.stand w (named.Generator g) known) in
        (found.0, found.1, found.2 ∙ sym takes, found.3 ∙ sym gives)

    values_typed : (f : OfValues) (ts : List TypeData) (es : List ExprData) (t : TypeData) (g : GenData) → gen_form_by d.names w (entry_of gen_forms w) ≡ Some (values f) → AreTyped d.headers.kinds functions env (exprs_of es) ts
        → ValuesTypes d.headers f ts t → IsOfValues f es g → Draws env g t
    values_typed choose ts es t g known all fit is = choose_typed ts es t g all fit is
    values_typed elements ts es t g known all fit is = elements_typed ts es t g all fit is
    values_typed pure ts es t g known all fit is = pure_typed ts es t g all fit is
    values_typed (call i) ts es t g known all fit is =
        let declared = generator_by d.names w (entry_of gen_forms w) i (λ form h. entry_holds IsOwn gen_forms w form own_forms h) known in
        as_gen env g (GenData.call i es) t is (ts, is_generator i ts t declared fit.0 fit.1, all)

    list_typed : (ts : List TypeData) (gs : List GenData) (t : TypeData) (g : GenData) → DrawTypes d.headers.kinds functions generators env (gens_of gs) ts → DrawsTypes d.headers of_list ts t → IsOfDraws of_list gs g → Draws env g t
    list_typed (a ∷ []) (f ∷ []) t g all fit is = as_gen env g (GenData.list f) t is (a, all.0, fit)
    list_typed (a ∷ []) gs t g all fit is = absurd is
    list_typed ts gs t g all fit is = absurd fit

    pair_typed : (ts : List TypeData) (gs : List GenData) (t : TypeData) (g : GenData) → DrawTypes d.headers.kinds functions generators env (gens_of gs) ts → DrawsTypes d.headers of_pair ts t → IsOfDraws of_pair gs g → Draws env g t
    pair_typed (a ∷ b ∷ []) (e ∷ f ∷ []) t g all fit is = as_gen env g (GenData.pair e f) t is (a, b, all.0, all.1.0, fit)
    pair_typed (a ∷ b ∷ []) gs t g all fit is = absurd is
    pair_typed ts gs t g all fit is = absurd fit

    one_typed : (ts : List TypeData) (gs : List GenData) (t : TypeData) (g : GenData) → DrawTypes d.headers.kinds functions generators env (gens_of gs) ts → DrawsTypes d.headers one_of ts t → IsOfDraws one_of gs g → Draws env g t
    one_typed (a ∷ ts) [] t g all fit is = absurd all
    one_typed (a ∷ ts) (f ∷ gs) t g all fit is = as_gen env g (GenData.one_of (gens_of (f ∷ gs))) t is (omega arith, all_draw (f ∷ gs) (a ∷ ts) t all fit)
    one_typed ts gs t g all fit is = absurd fit

    draws_typed : (f : OfDraws) (ts : List TypeData) (gs : List GenData) (t : TypeData) (g : GenData) → gen_form_by d.names w (entry_of gen_forms w) ≡ Some (draws f) → DrawTypes d.headers.kinds functions generators env (gens_of gs) ts
        → DrawsTypes d.headers f ts t → IsOfDraws f gs g → Draws env g t
    draws_typed of_list ts gs t g known all fit is = list_typed ts gs t g all fit is
    draws_typed of_pair ts gs t g known all fit is = pair_typed ts gs t g all fit is
    draws_typed one_of ts gs t g known all fit is = one_typed ts gs t g all fit is
    draws_typed (made k m) ts gs t g known all fit is =
        let declared = maker_by d.names w (entry_of gen_forms w) k m (λ form h. entry_holds IsOwn gen_forms w form own_forms h) known in
        as_gen env g (GenData.making k m (gens_of gs)) t is (ts, is_maker d functions generators fits w k m ts declared fit.0, all, fit.1)

    sized_by : (f : Sized) (e : ExprData) (u t : TypeData) (body g : GenData) → Typed env e int_type → Draws env body u → SizedTypes f u t → IsSizedBy f e body g → Draws env g t
    sized_by vector e u t body g ie ib fit is = as_gen env g (GenData.vector e body) t is (ie, (u, ib, fit))
    sized_by resize e u t body g ie ib fit is = as_gen env g (GenData.resize e body) t is (ie, as_drawn env body u t (sym fit) ib)

  weights_are : (ws : List (ℕ × GenData)) → total_weight (weighteds_of ws) ≡ sum_by (λ a. a.0) ws
  weights_are [] = refl
  weights_are (a ∷ ws) = ap (λ n. a.0 + n) (weights_are ws) ∙ sym (sum_by-cons (λ (b : ℕ × GenData). b.0) a ws)

  node : (s : Scope) (p q : _) (w : Word) (parts : PlainTrees) (t : TypeData) (g : GenData)
      → ((ts : List TypeData) (gs : List GenData) → AreGenerators d s parts ts gs → DrawTypes d.headers.kinds functions generators (types_of s) (gens_of gs) ts)
      → ((f : Sized) → IsSized d s f parts t g → Draws (types_of s) g t) → (IsBind d s parts t g → Draws (types_of s) g t)
      → ((ws : List (ℕ × GenData)) → AreWeighed d s t parts ws → AllPartsDrawType d.headers.kinds functions generators (types_of s) (weighteds_of ws) t)
      → IsTreeGenerator d s (list p (more (name q w) parts)) t g → Draws (types_of s) g t
  node s p q w parts t g all sizes binds weighed (values f, known, (ts, es, are, fit, is)) = values_typed (types_of s) w f ts es t g known (expressions_typed d functions generators fits parts s ts es are) fit is
  node s p q w parts t g all sizes binds weighed (draws f, known, (ts, gs, are, fit, is)) = draws_typed (types_of s) w f ts gs t g known (all ts gs are) fit is
  node s p q w parts t g all sizes binds weighed (sized f, known, h) = sizes f h
  node s p q w parts t g all sizes binds weighed (bind, known, h) = binds h
  node s p q w parts t g all sizes binds weighed (frequency, known, (ws, are, some, is)) =
      as_gen (types_of s) g (GenData.frequency (weighteds_of ws)) t is (omega (arith, weights_are ws, some), weighed ws are)

  mutual
    pub generator_typed : (tree : PlainTree) (s : Scope) (t : TypeData) (g : GenData) → IsTreeGenerator d s tree t g → DrawsType d.headers.kinds functions generators (types_of s) g t
    generator_typed (number p n) s t g h = absurd h
    generator_typed (name p w) s t g h = lone (types_of s) w t g h
    generator_typed (list p (more (name q w) parts)) s t g h =
        node s p q w parts t g (λ ts gs are. generators_typed parts s ts gs are) (λ f k. sized_typed parts s f t g k) (λ k. bind_typed parts s t g k) (λ ws are. weighed_typed parts s t ws are) h
    generator_typed (list p parts) s t g h = absurd h

    generators_typed : (trees : PlainTrees) (s : Scope) (ts : List TypeData) (gs : List GenData) → AreGenerators d s trees ts gs → DrawTypes d.headers.kinds functions generators (types_of s) (gens_of gs) ts
    generators_typed end s [] [] h = tt
    generators_typed (more u us) s (t ∷ ts) (g ∷ gs) h = (generator_typed u s t g h.0, generators_typed us s ts gs h.1)
    generators_typed trees s ts gs h = absurd h

    sized_typed : (parts : PlainTrees) (s : Scope) (f : Sized) (t : TypeData) (g : GenData) → IsSized d s f parts t g → DrawsType d.headers.kinds functions generators (types_of s) g t
    sized_typed (more a (more b end)) s f t g (e, u, body, ie, ib, fit, is) = sized_by (types_of s) [] f e u t body g (expression_typed d functions generators fits a s int_type e ie) (generator_typed b s u body ib) fit is
    sized_typed parts s f t g h = absurd h

    bind_typed : (parts : PlainTrees) (s : Scope) (t : TypeData) (g : GenData) → IsBind d s parts t g → DrawsType d.headers.kinds functions generators (types_of s) g t
    bind_typed (more x (more a (more b end))) s t g (w, u, first, body, v, ia, ib, is) =
        as_gen (types_of s) g (GenData.bind first body) t is
        (u, generator_typed a s u first ia, subst (λ (us : List TypeData). Draws us body t) (bound_types s w u) (generator_typed b (with_variable s w u) t body ib))
    bind_typed parts s t g h = absurd h

    weighed_typed : (parts : PlainTrees) (s : Scope) (t : TypeData) (ws : List (ℕ × GenData)) → AreWeighed d s t parts ws → AllPartsDrawType d.headers.kinds functions generators (types_of s) (weighteds_of ws) t
    weighed_typed end s t [] h = tt
    weighed_typed (more (list p (more (number q n) (more b end))) us) s t (w ∷ ws) h = (generator_typed b s t w.1 h.2, weighed_typed us s t ws h.3)
    weighed_typed parts s t ws h = absurd h
