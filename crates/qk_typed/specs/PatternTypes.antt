-- The patterns of a type, and which matches have all of them.
use Rattle.std.specs.Prelude.{◌≡◌, ◌⊎◌, List, [], ◌∷◌, Some}
use Rattle.qk_value.specs.Kinds.{KindData, maker_of}
use Rattle.qk_value.specs.Types.{TypeData, int_type, bool_type, list_type, pair_type, made_type}
use Rattle.qk_value.specs.Typing.{field_types}
use Rattle.qk_core.specs.ExprData.{CasesData, no_case, more_cases}
use Rattle.qk_core.specs.declared.expr.Pattern.{Pattern}
use Rattle.qk_core.specs.declared.expr.Pattern.TheVariants as patterns

-- the pattern is one of the type, and what it adds to the environment has these types
abbrev pub Binds : List KindData → Pattern → TypeData → List TypeData → Type 0
Binds kinds patterns.Nil (list_type t) ts = ts ≡ []
Binds kinds patterns.Cons (list_type t) ts = ts ≡ t ∷ list_type t ∷ []
Binds kinds patterns.Pair (pair_type t u) ts = ts ≡ t ∷ u ∷ []
Binds kinds (patterns.Maker k m) (made_type l) ts = (k ≡ l) × (field_types (maker_of kinds k m) ≡ Some ts)
Binds kinds p t ts = ⊥

-- lists, pairs and values of user types can be matched
abbrev pub IsMatched : TypeData → Type 0
IsMatched int_type = ⊥
IsMatched bool_type = ⊥
IsMatched (list_type t) = Unit {0}
IsMatched (pair_type t u) = Unit {0}
IsMatched (made_type k) = Unit {0}

-- one of the cases has this pattern
abbrev pub HasCase : Pattern → CasesData → Type 0
HasCase p no_case = ⊥
HasCase p (more_cases q body cases) = (q ≡ p) ⊎ HasCase p cases

-- each pattern of the type has a case, so that each value of the type is taken
abbrev pub IsComplete : List KindData → TypeData → CasesData → Type 0
IsComplete kinds t cases = IsMatched t × ((p : Pattern) (ts : List TypeData) → Binds kinds p t ts → HasCase p cases)
