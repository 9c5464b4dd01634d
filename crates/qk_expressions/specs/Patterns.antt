-- The patterns of a type, and what the cases of a match have come to.
use Rattle.std.specs.Prelude.{ℕ, ◌+◌, Bool, true, not, List, [], ◌∷◌, ◌++◌, codes, bytes_eq, Option, Some, None, unwrap_or, slice_get, find, Ok}
use Rattle.std.specs.List.{list_any, list_all}
use Rattle.std.specs.Option.{option_or}
use Rattle.qk_base.specs.declared.place.Place.{Place}
use Rattle.qk_syntax.specs.PlainTrees.{PlainTrees, end, more}
use Rattle.qk_value.specs.Kinds.{KindData, MakerData}
use Rattle.qk_value.specs.Types.{TypeData, int_type, bool_type, list_type, pair_type, made_type}
use Rattle.qk_names.specs.Checks.{Checked, ◌>>=◌, ◌>>◌, refuse, check}
use Rattle.qk_core.specs.ExprData.{ExprData}
use Rattle.qk_headers.specs.Headers.{HeadersData}
use Rattle.qk_names.specs.Names.{Declared, is_known}
use Rattle.qk_typing.specs.Operators.{Typed, has_type}
use Rattle.qk_names.specs.Reserved.{Word}
use Rattle.qk_headers.specs.Scopes.{variable_at}
use Rattle.qk_core.specs.declared.expr.Pattern.{Pattern}
use Rattle.qk_core.specs.declared.expr.Pattern.TheVariants as patterns

-- a pattern: its head, and the types of its variables
pub record Shape : Type 0 where
  pub head : Word
  pub pattern : Pattern
  pub fields : List TypeData

abbrev pub maker_shapes : ℕ → ℕ → List MakerData → List Shape
maker_shapes k m [] = []
maker_shapes k m (maker ∷ makers) = record { head = maker.name; pattern = patterns.Maker k m; fields = maker.fields } ∷ maker_shapes k (m + 1) makers

abbrev pub makers_of : HeadersData → ℕ → List MakerData
makers_of h k = elim (slice_get h.kinds k) [ Some kind ↦ kind.makers | None ↦ [] ]

-- the patterns of a type; numbers and truth values have none
abbrev pub shapes_of : HeadersData → TypeData → List Shape
shapes_of h int_type = []
shapes_of h bool_type = []
shapes_of h (list_type t) = record { head = codes "nil"; pattern = patterns.Nil; fields = [] } ∷ record { head = codes "cons"; pattern = patterns.Cons; fields = t ∷ list_type t ∷ [] } ∷ []
shapes_of h (pair_type t u) = record { head = codes "pair"; pattern = patterns.Pair; fields = t ∷ u ∷ [] } ∷ []
shapes_of h (made_type k) = maker_shapes k 0 (makers_of h k)

abbrev pub has_patterns : List Shape → Bool
has_patterns shapes = list_any (λ s. true) shapes

abbrev pub shape_or_refused : List Declared → Place → Place → Word → Option Shape → Checked Shape
shape_or_refused names p q w (Some s) = Ok s
shape_or_refused names p q w None = do
  check (is_known names w) 22 q
  refuse 24 p

-- the pattern at a place with this head: 22 at the head where it is not known, 24 at the pattern where it is of another type
abbrev pub shape_at : List Declared → List Shape → Place → Place → Word → Checked Shape
shape_at names shapes p q w = shape_or_refused names p q w (find (λ s. bytes_eq w s.head) shapes)

-- the variables of a pattern, left to right
abbrev pub pattern_variables : List Word → PlainTrees → Checked (List Word)
pattern_variables before end = Ok before
pattern_variables before (more t ts) = do
  w ← variable_at before t
  pattern_variables (before ++ w ∷ []) ts

-- the cases before: the type of their bodies, their heads, and what they are
pub record Cases : Type 0 where
  pub ty : Option TypeData
  pub heads : List Word
  pub cases : List (Pattern × ExprData)

abbrev pub no_cases : Cases
no_cases = record { ty = None; heads = []; cases = [] }

abbrev pub is_among : List Word → Word → Bool
is_among ws w = list_any (bytes_eq w) ws

-- a body has the type of the first body
abbrev pub agrees : Cases → Typed → Checked (Unit {0})
agrees before body = elim before.ty [ None ↦ Ok tt | Some t ↦ has_type t body ]

abbrev pub with_case : Cases → Shape → Typed → Cases
with_case before shape body = record { ty = option_or before.ty (Some body.ty); heads = before.heads ++ shape.head ∷ []; cases = before.cases ++ (shape.pattern, body.expr) ∷ [] }

abbrev pub are_complete : List Shape → Cases → Bool
are_complete shapes cases = list_all (λ s. is_among cases.heads s.head) shapes

abbrev pub result_of : Cases → TypeData
result_of cases = unwrap_or cases.ty int_type
