-- The third pass: the bodies of the items.
use Rattle.std.specs.Prelude.{ℕ, List, [], ◌∷◌, ◌++◌, length, Option, Some, None, unwrap_or, slice_get, Ok}
use Rattle.qk_base.specs.declared.place.Place.{Place}
use Rattle.qk_syntax.specs.PlainTrees.{PlainTree, number, name, list, PlainTrees, end, more}
use Rattle.qk_value.specs.Types.{TypeData, int_type}
use Rattle.qk_clauses.specs.Binders.{binders_at}
use Rattle.qk_names.specs.Checks.{Checked, ◌>>=◌, ◌>>◌, refuse, check, place_of}
use Rattle.qk_clauses.specs.Clauses.{no_clauses, clauses_at, closed_clauses}
use Rattle.qk_core.specs.Definitions.{FunctionData, UserGenData}
use Rattle.qk_generators.specs.Drawing.{draws_type, generator_of}
use Rattle.qk_expressions.specs.Expressions.{expression}
use Rattle.qk_generators.specs.Generators.{generator}
use Rattle.qk_headers.specs.Headers.{HeadersData, SignatureData, ModelTypesData}
use Rattle.qk_clauses.specs.Models.{model_at}
use Rattle.qk_names.specs.Names.{item_of}
use Rattle.qk_typing.specs.Operators.{Tables, has_type, function_of}
use Rattle.qk_core.specs.Program.{ProgramData}
use Rattle.qk_core.specs.Properties.{PropertyData}
use Rattle.qk_names.specs.Reserved.{Word}
use Rattle.qk_headers.specs.Scopes.{types_of}
use Rattle.qk_names.specs.declared.names.Item.{Item}
use Rattle.qk_names.specs.declared.names.Item.TheVariants as items

abbrev pub function_body : Tables → Place → SignatureData → PlainTrees → Checked FunctionData
function_body d p s (more params (more t (more body end))) = do
  body ← expression d s.params body
  has_type s.result body
  Ok (record { params = types_of s.params; result = s.result; body = body.expr })
function_body d p s parts = refuse 23 p

abbrev pub generator_body : Tables → Place → SignatureData → PlainTrees → Checked UserGenData
generator_body d p s (more params (more t (more body end))) = do
  body ← generator d s.params body
  draws_type s.result body
  Ok (record { params = types_of s.params; result = s.result; body = body.gen })
generator_body d p s parts = refuse 23 p

abbrev pub forall_body : Tables → Place → Word → PlainTrees → Checked PropertyData
forall_body d p w (more (list q binders) clauses) = do
  bs ← binders_at d [] binders
  cs ← clauses_at d bs no_clauses clauses
  what ← closed_clauses p cs
  Ok (record { name = w; binders = bs; givens = cs.givens; check = what; marks = cs.marks })
forall_body d p w parts = refuse 23 p

abbrev pub property_body : Tables → Place → Word → PlainTrees → Checked PropertyData
property_body d p w (more (list q (more head parts)) end) = forall_body d q w parts
property_body d p w parts = refuse 23 p

abbrev pub no_model : ModelTypesData
no_model = record { command = int_type; abstract_ty = int_type; system_ty = int_type }

-- an item after those before it; each is the next of its sort
abbrev pub item_body : Tables → ProgramData → Place → Word → Option Item → PlainTrees → Checked ProgramData
item_body d c p w (Some items.Kind) parts = Ok c
item_body d c p w (Some items.Function) parts = do
  f ← function_body d p (function_of d.headers (length c.functions)) parts
  Ok (record c { functions = c.functions ++ f ∷ [] })
item_body d c p w (Some items.Generator) parts = do
  g ← generator_body d p (generator_of d.headers (length c.generators)) parts
  Ok (record c { generators = c.generators ++ g ∷ [] })
item_body d c p w (Some items.Model) parts = do
  m ← model_at d p (unwrap_or (slice_get d.headers.models (length c.models)) no_model) parts
  Ok (record c { models = c.models ++ m ∷ [] })
item_body d c p w (Some items.Property) parts = do
  r ← property_body d p w parts
  Ok (record c { properties = c.properties ++ r ∷ [] })
item_body d c p w None parts = refuse 20 p

abbrev pub body_at : Tables → ProgramData → PlainTree → Checked ProgramData
body_at d c (list p (more (name q w) (more (name r x) parts))) = item_body d c p x (item_of w) parts
body_at d c t = refuse 20 (place_of t)

abbrev pub bodies_after : Tables → ProgramData → PlainTrees → Checked ProgramData
bodies_after d c end = Ok c
bodies_after d c (more item items) = do
  c ← body_at d c item
  bodies_after d c items

abbrev pub bodies_of : Tables → PlainTrees → Checked ProgramData
bodies_of d trees = bodies_after d (record { kinds = d.headers.kinds; functions = []; generators = []; models = []; properties = [] }) trees
