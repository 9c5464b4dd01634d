-- Typing rules of generators, over the types of the environment.
use Rattle.std.specs.Prelude.{◌≡◌, ◌<◌, ℕ, List, [], ◌∷◌, ◌++◌, Some, length, slice_get}
use Rattle.qk_value.specs.Kinds.{KindData}
use Rattle.qk_value.specs.Types.{TypeData, int_type, bool_type, list_type, pair_type, made_type}
use Rattle.qk_core.specs.Definitions.{FunctionData, UserGenData}
use Rattle.qk_core.specs.ExprData.{ExprData, exprs_of}
use Rattle.qk_core.specs.GenData.{GenData, any_number, any_truth, size, choose, list, vector, pair, elements, one_of, frequency, resize, bind, pure, making, call, GensData, end, more, WeightedsData, no_weighted, more_weighted}
use Rattle.qk_gen.specs.Drawing.{gens_count, total_weight}
use Rattle.qk_typed.specs.TypedExpressions.{IsMaker, IsTyped, AreTyped}

-- the generator of that number takes values of these types and draws values of that type
abbrev pub IsGenerator : List UserGenData → ℕ → List TypeData → TypeData → Type 0
IsGenerator generators g params t = (generator : UserGenData) × (slice_get generators g ≡ Some generator) × (generator.params ≡ params) × (generator.result ≡ t)

module _ (kinds : List KindData) (functions : List FunctionData) (generators : List UserGenData) where
  -- expressions of one type
  abbrev pub AllTyped : List TypeData → List ExprData → TypeData → Type 0
  AllTyped env [] t = Unit {0}
  AllTyped env (e ∷ es) t = IsTyped kinds functions env e t × AllTyped env es t

  abbrev mutual
    -- in an environment of these types, the generator draws values of that type
    pub DrawsType : List TypeData → GenData → TypeData → Type 0
    DrawsType env any_number t = t ≡ int_type
    DrawsType env any_truth t = t ≡ bool_type
    DrawsType env size t = t ≡ int_type
    DrawsType env (choose a b) t = IsTyped kinds functions env a int_type × IsTyped kinds functions env b int_type × (t ≡ int_type)
    DrawsType env (list g) t = (item : TypeData) × DrawsType env g item × (t ≡ list_type item)
    DrawsType env (vector e g) t = IsTyped kinds functions env e int_type × ((item : TypeData) × DrawsType env g item × (t ≡ list_type item))
    DrawsType env (pair g h) t = (r : TypeData) × (s : TypeData) × DrawsType env g r × DrawsType env h s × (t ≡ pair_type r s)
    DrawsType env (elements es) t = (0 < length es) × AllTyped env es t
    DrawsType env (one_of gs) t = (0 < gens_count gs) × AllDrawType env gs t
    DrawsType env (frequency parts) t = (0 < total_weight parts) × AllPartsDrawType env parts t
    DrawsType env (resize e g) t = IsTyped kinds functions env e int_type × DrawsType env g t
    DrawsType env (bind g h) t = (s : TypeData) × DrawsType env g s × DrawsType (env ++ s ∷ []) h t
    DrawsType env (pure e) t = IsTyped kinds functions env e t
    DrawsType env (making k m gs) t = (ts : List TypeData) × IsMaker kinds k m ts × DrawTypes env gs ts × (t ≡ made_type k)
    DrawsType env (call g args) t = (ts : List TypeData) × IsGenerator generators g ts t × AreTyped kinds functions env (exprs_of args) ts

    -- as many generators as types, each drawing values of its own
    pub DrawTypes : List TypeData → GensData → List TypeData → Type 0
    DrawTypes env end [] = Unit {0}
    DrawTypes env (more g gs) (t ∷ ts) = DrawsType env g t × DrawTypes env gs ts
    DrawTypes env gs ts = ⊥

    -- generators that all draw values of one type
    pub AllDrawType : List TypeData → GensData → TypeData → Type 0
    AllDrawType env end t = Unit {0}
    AllDrawType env (more g gs) t = DrawsType env g t × AllDrawType env gs t

    pub AllPartsDrawType : List TypeData → WeightedsData → TypeData → Type 0
    AllPartsDrawType env no_weighted t = Unit {0}
    AllPartsDrawType env (more_weighted weight g parts) t = DrawsType env g t × AllPartsDrawType env parts t
