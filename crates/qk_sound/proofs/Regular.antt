-- The types of typed expressions and generators have user types of the table alone.
use Rattle.std.specs.Prelude.{option_and_then}
use Rattle.std.proofs.Common.{◌≡◌, ◌∙◌, ℕ, zero, suc, ◌<◌, List, [], ◌∷◌, ◌++◌, length, Option, Some, slice_get, refl, sym, ap, subst, arith}
use Rattle.std.proofs.lemmas.Option.{slice_get_within}
use Rattle.qk_core.specs.Definitions.{FunctionData, UserGenData}
use Rattle.qk_core.specs.ExprData.{ExprData, number, truth, variable, empty, choice, binding, unary, binary, matching, making, call, CasesData, no_case, more_cases}
use Rattle.qk_core.specs.GenData.{GenData, GensData, WeightedsData}
use Rattle.qk_core.specs.GenData as gens
use Rattle.qk_core.specs.declared.expr.Op1.{Op1}
use Rattle.qk_core.specs.declared.expr.Op1.TheVariants as ones
use Rattle.qk_core.specs.declared.expr.Op2.{Op2}
use Rattle.qk_core.specs.declared.expr.Op2.TheVariants as twos
use Rattle.qk_core.specs.declared.expr.Pattern.{Pattern}
use Rattle.qk_core.specs.declared.expr.Pattern.TheVariants as patterns
use Rattle.qk_gen.specs.Drawing.{gens_count, total_weight}
use Rattle.qk_typed.specs.OperatorTypes.{TakesOne, TakesTwo}
use Rattle.qk_typed.specs.PatternTypes.{Binds, IsMatched, HasCase}
use Rattle.qk_typed.specs.TypedExpressions.{IsType, AreTypes, IsFunction, IsMaker, IsTyped, AreCases}
use Rattle.qk_typed.specs.TypedGenerators.{IsGenerator, AllTyped, DrawsType, AllDrawType, AllPartsDrawType}
use Rattle.qk_typed.specs.WellTyped.{Each, IsTypedKind}
use Rattle.qk_typed.proofs.ValueTypes.{each_at}
use Rattle.qk_value.specs.Kinds.{MakerData, KindData}
use Rattle.qk_value.specs.Types.{TypeData, int_type, bool_type, list_type, pair_type, made_type}
use Rattle.qk_value.specs.Typing.{field_types}
use Rattle.qk_headers.specs.Headers.{HeadersData}
use Rattle.qk_sound.proofs.Shapes.{IsMade, is_made}

-- each user type has a maker
abbrev pub HasMaker : KindData → Type 0
HasMaker kind = 0 < length kind.makers

-- what the table and the definitions are typed by
pub record Sound (h : HeadersData) (functions : List FunctionData) (generators : List UserGenData) : Type 0 where
  pub kinds_typed : Each (IsTypedKind h.kinds) h.kinds
  pub some_maker : Each HasMaker h.kinds
  pub function_results : (f : ℕ) (function : FunctionData) → slice_get functions f ≡ Some function → IsType h.kinds function.result
  pub generator_results : (g : ℕ) (generator : UserGenData) → slice_get generators g ≡ Some generator → IsType h.kinds generator.result

module _ (h : HeadersData) (functions : List FunctionData) (generators : List UserGenData) (sound : Sound h functions generators) where
  as_type : (t u : TypeData) → t ≡ u → IsType h.kinds u → IsType h.kinds t
  as_type t u is k = subst (IsType h.kinds) (sym is) k

  type_at : (ts : List TypeData) (i : ℕ) (t : TypeData) → AreTypes h.kinds ts → slice_get ts i ≡ Some t → IsType h.kinds t
  type_at [] i t k e = cc
  type_at (u ∷ ts) zero t k e = let same : u ≡ t = cc in subst (IsType h.kinds) same k.0
  type_at (u ∷ ts) (suc i) t k e = type_at ts i t k.1 e

  both_types : (ts us : List TypeData) → AreTypes h.kinds ts → AreTypes h.kinds us → AreTypes h.kinds (ts ++ us)
  both_types [] us k l = l
  both_types (t ∷ ts) us k l = (k.0, both_types ts us k.1 l)

  fields_types : (k m : ℕ) (ts : List TypeData) → IsMaker h.kinds k m ts → AreTypes h.kinds ts
  fields_types k m ts e =
      let made : IsMade h k m ts = is_made h k m ts e in
      subst (AreTypes h.kinds) made.fields (each_at (λ (x : MakerData). AreTypes h.kinds x.fields) made.kind.makers m made.maker (each_at (IsTypedKind h.kinds) h.kinds k made.kind sound.kinds_typed made.at) made.of)

  made_type_is : (k m : ℕ) (ts : List TypeData) (t : TypeData) → IsMaker h.kinds k m ts → t ≡ made_type k → IsType h.kinds t
  made_type_is k m ts t e is = as_type t (made_type k) is (let made : IsMade h k m ts = is_made h k m ts e in slice_get_within h.kinds k made.kind made.at)

  function_type : (f : ℕ) (ts : List TypeData) (t : TypeData) → IsFunction functions f ts t → IsType h.kinds t
  function_type f ts t w = subst (IsType h.kinds) w.3 (sound.function_results f w.0 w.1)

  generator_type : (g : ℕ) (ts : List TypeData) (t : TypeData) → IsGenerator generators g ts t → IsType h.kinds t
  generator_type g ts t w = subst (IsType h.kinds) w.3 (sound.generator_results g w.0 w.1)

  one_type : (op : Op1) (a t : TypeData) → TakesOne op a t → IsType h.kinds t
  one_type ones.Neg a t w = as_type t int_type w.1 tt
  one_type ones.Not a t w = as_type t bool_type w.1 tt
  one_type ones.Length a t w = as_type t int_type w.2 tt

  two_type : (op : Op2) (a b t : TypeData) → IsType h.kinds a → IsType h.kinds b → TakesTwo op a b t → IsType h.kinds t
  two_type twos.Add a b t k l w = as_type t int_type w.2 tt
  two_type twos.Sub a b t k l w = as_type t int_type w.2 tt
  two_type twos.Mul a b t k l w = as_type t int_type w.2 tt
  two_type twos.Div a b t k l w = as_type t int_type w.2 tt
  two_type twos.Mod a b t k l w = as_type t int_type w.2 tt
  two_type twos.Equal a b t k l w = as_type t bool_type w.1 tt
  two_type twos.Less a b t k l w = as_type t bool_type w.1 tt
  two_type twos.AtMost a b t k l w = as_type t bool_type w.1 tt
  two_type twos.And a b t k l w = as_type t bool_type w.2 tt
  two_type twos.Or a b t k l w = as_type t bool_type w.2 tt
  two_type twos.Cons a b t k l w = as_type t (list_type a) w.1 k
  two_type twos.Append a b t k l w = as_type t (list_type w.0) w.3 (subst (IsType h.kinds) w.1 k)
  two_type twos.Pair a b t k l w = as_type t (pair_type a b) w (k, l)

  binds_types : (p : Pattern) (s : TypeData) (ts : List TypeData) → IsType h.kinds s → Binds h.kinds p s ts → AreTypes h.kinds ts
  binds_types patterns.Nil (list_type t) ts k b = subst (AreTypes h.kinds) (sym b) tt
  binds_types patterns.Cons (list_type t) ts k b = subst (AreTypes h.kinds) (sym b) (k, (k, tt))
  binds_types patterns.Pair (pair_type t u) ts k b = subst (AreTypes h.kinds) (sym b) (k.0, (k.1, tt))
  binds_types (patterns.Maker k m) (made_type l) ts i b = fields_types k m ts b.1
  binds_types p s ts k b = absurd b

  -- a pattern of a type that can be matched
  record Pick (s : TypeData) : Type 0 where
    pattern : Pattern
    types : List TypeData
    binds : Binds h.kinds pattern s types

  kind_at : (kinds : List KindData) (k : ℕ) → k < length kinds → (kind : KindData) × (slice_get kinds k ≡ Some kind)
  kind_at [] k l = absurd (omega (arith, l))
  kind_at (kind ∷ kinds) zero l = (kind, refl)
  kind_at (kind ∷ kinds) (suc k) l = kind_at kinds k (omega (arith, l))

  first_maker : (makers : List MakerData) → 0 < length makers → (maker : MakerData) × (slice_get makers 0 ≡ Some maker)
  first_maker [] l = absurd (omega (arith, l))
  first_maker (maker ∷ makers) l = (maker, refl)

  some_pattern : (s : TypeData) → IsType h.kinds s → IsMatched s → Pick s
  some_pattern int_type k m = absurd m
  some_pattern bool_type k m = absurd m
  some_pattern (list_type t) k m = record { pattern = patterns.Nil; types = []; binds = refl }
  some_pattern (pair_type t u) k m = record { pattern = patterns.Pair; types = t ∷ u ∷ []; binds = refl }
  some_pattern (made_type k) l m =
      let kind : (kind : KindData) × (slice_get h.kinds k ≡ Some kind) = kind_at h.kinds k l in
      let maker : (maker : MakerData) × (slice_get kind.0.makers 0 ≡ Some maker) = first_maker kind.0.makers (each_at HasMaker h.kinds k kind.0 sound.some_maker kind.1) in
      record {
        pattern = patterns.Maker k 0;
        types = maker.0.fields;
        binds = (refl, ap (λ (o : Option KindData). field_types (option_and_then (λ (x : KindData). slice_get x.makers 0) o)) kind.1 ∙ ap field_types maker.1);
      }

  mutual
    pub type_is : (e : ExprData) (env : List TypeData) (t : TypeData) → AreTypes h.kinds env → IsTyped h.kinds functions env e t → IsType h.kinds t
    type_is (number n) env t k w = as_type t int_type w tt
    type_is (truth b) env t k w = as_type t bool_type w tt
    type_is (variable x) env t k w = type_at env x t k w
    type_is (empty item) env t k w = as_type t (list_type item) w.1 w.0
    type_is (choice c a b) env t k w = type_is a env t k w.1
    type_is (binding a b) env t k w = type_is b (env ++ w.0 ∷ []) t (both_types env (w.0 ∷ []) k (type_is a env w.0 k w.1, tt)) w.2
    type_is (unary op a) env t k w = one_type op w.0 t w.2
    type_is (binary op a b) env t k w = two_type op w.0 w.1 t (type_is a env w.0 k w.2) (type_is b env w.1 k w.3) w.4
    type_is (matching a cases) env t k w =
        let value : IsType h.kinds w.0 = type_is a env w.0 k w.1 in
        let pick : Pick w.0 = some_pattern w.0 value w.3.0 in
        case_type cases env w.0 t pick.pattern k value w.2 (w.3.1 pick.pattern pick.types pick.binds)
    type_is (making i m parts) env t k w = made_type_is i m w.0 t w.1 w.3
    type_is (call f args) env t k w = function_type f w.0 t w.1

    case_type : (cases : CasesData) (env : List TypeData) (s t : TypeData) (p : Pattern) → AreTypes h.kinds env → IsType h.kinds s → AreCases h.kinds functions env cases s t → HasCase p cases → IsType h.kinds t
    case_type no_case env s t p k l w has = absurd has
    case_type (more_cases q e cases) env s t p k l w has = type_is e (env ++ w.0.0) t (both_types env w.0.0 k (binds_types q s w.0.0 l w.0.1)) w.0.2

  first_typed : (es : List ExprData) (env : List TypeData) (t : TypeData) → AreTypes h.kinds env → 0 < length es → AllTyped h.kinds functions generators env es t → IsType h.kinds t
  first_typed [] env t k l w = absurd (omega (arith, l))
  first_typed (e ∷ es) env t k l w = type_is e env t k w.0

  mutual
    pub drawn_type_is : (g : GenData) (env : List TypeData) (t : TypeData) → AreTypes h.kinds env → DrawsType h.kinds functions generators env g t → IsType h.kinds t
    drawn_type_is gens.any_number env t k w = as_type t int_type w tt
    drawn_type_is gens.any_truth env t k w = as_type t bool_type w tt
    drawn_type_is gens.size env t k w = as_type t int_type w tt
    drawn_type_is (gens.choose a b) env t k w = as_type t int_type w.2 tt
    drawn_type_is (gens.list g) env t k w = as_type t (list_type w.0) w.2 (drawn_type_is g env w.0 k w.1)
    drawn_type_is (gens.vector e g) env t k w = as_type t (list_type w.1.0) w.1.2 (drawn_type_is g env w.1.0 k w.1.1)
    drawn_type_is (gens.pair f g) env t k w = as_type t (pair_type w.0 w.1) w.4 (drawn_type_is f env w.0 k w.2, drawn_type_is g env w.1 k w.3)
    drawn_type_is (gens.elements es) env t k w = first_typed es env t k w.0 w.1
    drawn_type_is (gens.one_of gs) env t k w = first_type gs env t k w.0 w.1
    drawn_type_is (gens.frequency parts) env t k w = part_type parts env t k w.0 w.1
    drawn_type_is (gens.resize e g) env t k w = drawn_type_is g env t k w.1
    drawn_type_is (gens.bind f g) env t k w = drawn_type_is g (env ++ w.0 ∷ []) t (both_types env (w.0 ∷ []) k (drawn_type_is f env w.0 k w.1, tt)) w.2
    drawn_type_is (gens.pure e) env t k w = type_is e env t k w
    drawn_type_is (gens.making i m gs) env t k w = made_type_is i m w.0 t w.1 w.3
    drawn_type_is (gens.call g args) env t k w = generator_type g w.0 t w.1

    first_type : (gs : GensData) (env : List TypeData) (t : TypeData) → AreTypes h.kinds env → 0 < gens_count gs → AllDrawType h.kinds functions generators env gs t → IsType h.kinds t
    first_type gens.end env t k l w = absurd (omega (arith, l))
    first_type (gens.more g gs) env t k l w = drawn_type_is g env t k w.0

    part_type : (parts : WeightedsData) (env : List TypeData) (t : TypeData) → AreTypes h.kinds env → 0 < total_weight parts → AllPartsDrawType h.kinds functions generators env parts t → IsType h.kinds t
    part_type gens.no_weighted env t k l w = absurd (omega (arith, l))
    part_type (gens.more_weighted a g parts) env t k l w = drawn_type_is g env t k w.0
