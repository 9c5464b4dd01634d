-- Typing rules of expressions, over the types of the environment.
use Rattle.std.specs.Prelude.{◌≡◌, ◌<◌, ℕ, List, [], ◌∷◌, ◌++◌, Some, length, slice_get}
use Rattle.qk_value.specs.Kinds.{KindData, maker_of}
use Rattle.qk_value.specs.Types.{TypeData, int_type, bool_type, list_type, pair_type, made_type}
use Rattle.qk_value.specs.Typing.{field_types}
use Rattle.qk_core.specs.Definitions.{FunctionData}
use Rattle.qk_core.specs.ExprData.{ExprData, number, truth, variable, empty, choice, binding, unary, binary, matching, making, call, ExprsData, end, more, CasesData, no_case, more_cases}
use Rattle.qk_typed.specs.OperatorTypes.{TakesOne, TakesTwo}
use Rattle.qk_typed.specs.PatternTypes.{Binds, IsComplete}

-- a type whose user types are all in the table
abbrev pub IsType : List KindData → TypeData → Type 0
IsType kinds int_type = Unit {0}
IsType kinds bool_type = Unit {0}
IsType kinds (list_type t) = IsType kinds t
IsType kinds (pair_type t u) = IsType kinds t × IsType kinds u
IsType kinds (made_type k) = k < length kinds

abbrev pub AreTypes : List KindData → List TypeData → Type 0
AreTypes kinds [] = Unit {0}
AreTypes kinds (t ∷ ts) = IsType kinds t × AreTypes kinds ts

-- the function of that number takes values of these types to a value of that type
abbrev pub IsFunction : List FunctionData → ℕ → List TypeData → TypeData → Type 0
IsFunction functions f params t = (function : FunctionData) × (slice_get functions f ≡ Some function) × (function.params ≡ params) × (function.result ≡ t)

-- the maker of these numbers has fields of these types
abbrev pub IsMaker : List KindData → ℕ → ℕ → List TypeData → Type 0
IsMaker kinds k m ts = field_types (maker_of kinds k m) ≡ Some ts

module _ (kinds : List KindData) (functions : List FunctionData) where
  abbrev mutual
    -- in an environment of these types, the expression has that type
    pub IsTyped : List TypeData → ExprData → TypeData → Type 0
    IsTyped env (number n) t = t ≡ int_type
    IsTyped env (truth b) t = t ≡ bool_type
    IsTyped env (variable x) t = slice_get env x ≡ Some t
    IsTyped env (empty item) t = IsType kinds item × (t ≡ list_type item)
    IsTyped env (choice c a b) t = IsTyped env c bool_type × IsTyped env a t × IsTyped env b t
    IsTyped env (binding a b) t = (s : TypeData) × IsTyped env a s × IsTyped (env ++ s ∷ []) b t
    IsTyped env (unary op a) t = (s : TypeData) × IsTyped env a s × TakesOne op s t
    IsTyped env (binary op a b) t = (r : TypeData) × (s : TypeData) × IsTyped env a r × IsTyped env b s × TakesTwo op r s t
    IsTyped env (matching a cases) t = (s : TypeData) × IsTyped env a s × AreCases env cases s t × IsComplete kinds s cases
    IsTyped env (making k m parts) t = (ts : List TypeData) × IsMaker kinds k m ts × AreTyped env parts ts × (t ≡ made_type k)
    IsTyped env (call f args) t = (ts : List TypeData) × IsFunction functions f ts t × AreTyped env args ts

    -- as many expressions as types, each of its own
    pub AreTyped : List TypeData → ExprsData → List TypeData → Type 0
    AreTyped env end [] = Unit {0}
    AreTyped env (more e es) (t ∷ ts) = IsTyped env e t × AreTyped env es ts
    AreTyped env es ts = ⊥

    -- each pattern is one of the type, and each body has that type where its pattern's values are added
    pub AreCases : List TypeData → CasesData → TypeData → TypeData → Type 0
    AreCases env no_case s t = Unit {0}
    AreCases env (more_cases p body cases) s t = ((ts : List TypeData) × Binds kinds p s ts × IsTyped (env ++ ts) body t) × AreCases env cases s t
