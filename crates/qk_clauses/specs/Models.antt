-- What the names and expressions of a model are, in the order in which they stand.
use Rattle.std.specs.Prelude.{ℕ, Bool, true, false, ◌&&◌, List, [], ◌∷◌, Option, Some, None, unwrap_or, slice_get, Ok}
use Rattle.qk_base.specs.declared.place.Place.{Place}
use Rattle.qk_syntax.specs.PlainTrees.{PlainTree, number, name, list, PlainTrees, end, more}
use Rattle.qk_value.specs.Types.{TypeData, int_type, bool_type, list_type, same_type}
use Rattle.qk_names.specs.Checks.{Checked, ◌>>=◌, ◌>>◌, refuse, check, place_of}
use Rattle.qk_core.specs.Definitions.{ModelData}
use Rattle.qk_generators.specs.Drawing.{generator_of}
use Rattle.qk_expressions.specs.Expressions.{expression}
use Rattle.qk_core.specs.ExprData.{ExprData}
use Rattle.qk_headers.specs.Headers.{HeadersData, SignatureData, ModelTypesData}
use Rattle.qk_names.specs.Names.{named_by}
use Rattle.qk_typing.specs.Operators.{Tables, has_type, function_of}
use Rattle.qk_headers.specs.Scopes.{types_of}
use Rattle.qk_names.specs.declared.names.Named.{Named}
use Rattle.qk_names.specs.declared.names.Named.TheVariants as named

abbrev pub same_types : List TypeData → List TypeData → Bool
same_types [] [] = true
same_types (t ∷ ts) (u ∷ us) = same_type t u && same_types ts us
same_types ts us = false

-- it takes values of these types, and gives one of that type
abbrev pub is_from_to : SignatureData → List TypeData → TypeData → Bool
is_from_to s params result = same_types (types_of s.params) params && same_type s.result result

-- undeclared is 22, of another sort 20
abbrev pub number_named : Place → (Named → Option ℕ) → Option Named → Checked ℕ
number_named p sort None = refuse 22 p
number_named p sort (Some what) = elim (sort what) [ Some n ↦ Ok n | None ↦ refuse 20 p ]

abbrev pub function_number : Named → Option ℕ
function_number (named.Function f) = Some f
function_number n = None

abbrev pub generator_number : Named → Option ℕ
generator_number (named.Generator g) = Some g
generator_number n = None

abbrev pub model_number : Named → Option ℕ
model_number (named.Model m) = Some m
model_number n = None

abbrev pub declared_at : Tables → (Named → Option ℕ) → PlainTree → Checked ℕ
declared_at d sort (name p w) = number_named p sort (named_by d.names w)
declared_at d sort t = refuse 20 (place_of t)

-- a function of that signature, by its name
abbrev pub function_at : Tables → List TypeData → TypeData → PlainTree → Checked ℕ
function_at d params result t = do
  f ← declared_at d function_number t
  check (is_from_to (function_of d.headers f) params result) 24 (place_of t)
  Ok f

abbrev pub generator_at : Tables → List TypeData → TypeData → PlainTree → Checked ℕ
generator_at d params result t = do
  g ← declared_at d generator_number t
  check (is_from_to (generator_of d.headers g) params result) 24 (place_of t)
  Ok g

-- an expression of that type that sees no variable
abbrev pub closed : Tables → TypeData → PlainTree → Checked ExprData
closed d t e = do
  e ← expression d [] e
  has_type t e
  Ok e.expr

pub record Abstract : Type 0 where
  pub init : ExprData
  pub pre : ℕ
  pub next : ℕ

pub record System : Type 0 where
  pub start : ExprData
  pub step : ℕ
  pub post : ℕ

abbrev pub command_at : Tables → ModelTypesData → PlainTree → Checked ℕ
command_at d m (list p (more head (more c (more g end)))) = generator_at d (m.abstract_ty ∷ []) m.command g
command_at d m t = refuse 20 (place_of t)

abbrev pub abstract_at : Tables → ModelTypesData → PlainTree → Checked Abstract
abstract_at d m (list p (more head (more s (more init (more pre (more next end)))))) = do
  init ← closed d m.abstract_ty init
  pre ← function_at d (m.abstract_ty ∷ m.command ∷ []) bool_type pre
  next ← function_at d (m.abstract_ty ∷ m.command ∷ []) m.abstract_ty next
  Ok (record { init = init; pre = pre; next = next })
abstract_at d m t = refuse 20 (place_of t)

abbrev pub system_at : Tables → ModelTypesData → PlainTree → Checked System
system_at d m (list p (more head (more r (more start (more step (more post end)))))) = do
  start ← closed d m.system_ty start
  step ← function_at d (m.system_ty ∷ m.command ∷ []) m.system_ty step
  post ← function_at d (m.abstract_ty ∷ m.command ∷ m.system_ty ∷ []) bool_type post
  Ok (record { start = start; step = step; post = post })
system_at d m t = refuse 20 (place_of t)

-- what stands after the name of a model with these types
abbrev pub model_at : Tables → Place → ModelTypesData → PlainTrees → Checked ModelData
model_at d p m (more c (more s (more r end))) = do
  maker ← command_at d m c
  s ← abstract_at d m s
  r ← system_at d m r
  Ok (record { command = m.command; maker = maker; abstract_ty = m.abstract_ty; init = s.init; pre = s.pre; next = s.next; system_ty = m.system_ty; start = r.start; step = r.step; post = r.post })
model_at d p m parts = refuse 23 p
