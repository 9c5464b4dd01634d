-- The binders of a property, each after those before it.
use Rattle.std.specs.Prelude.{ℕ, List, [], ◌∷◌, ◌++◌, map, codes, bytes_eq, Option, Some, None, unwrap_or, option_map, slice_get, Ok, if◌then◌else◌}
use Rattle.qk_base.specs.declared.place.Place.{Place}
use Rattle.qk_syntax.specs.PlainTrees.{PlainTree, number, name, list, PlainTrees, end, more}
use Rattle.qk_value.specs.Types.{TypeData, int_type, list_type}
use Rattle.qk_names.specs.Checks.{Checked, ◌>>=◌, ◌>>◌, refuse, check, place_of}
use Rattle.qk_generators.specs.Generators.{generator}
use Rattle.qk_headers.specs.Headers.{HeadersData}
use Rattle.qk_clauses.specs.Models.{declared_at, function_at, model_number}
use Rattle.qk_typing.specs.Operators.{Tables}
use Rattle.qk_core.specs.Properties.{BinderData, DrawData, plain, commands}
use Rattle.qk_names.specs.Reserved.{Word}
use Rattle.qk_headers.specs.Scopes.{Scope, variable_at}
use Rattle.qk_core.specs.declared.property.ShrinkBy.{ShrinkBy}
use Rattle.qk_core.specs.declared.property.ShrinkBy.TheVariants as shrinks

-- the variables that binders are
abbrev pub scope_of : List BinderData → Scope
scope_of binders = map (λ b. record { name = b.name; ty = b.ty }) binders

pub record TypedDraw : Type 0 where
  pub ty : TypeData
  pub draw : DrawData

-- the type of a list of commands of a model
abbrev pub command_list : HeadersData → ℕ → TypeData
command_list h m = list_type (unwrap_or (option_map (λ model. model.command) (slice_get h.models m)) int_type)

abbrev pub commands_of : Tables → Place → PlainTrees → Checked TypedDraw
commands_of d p (more model end) = do
  m ← declared_at d model_number model
  Ok (record { ty = command_list d.headers m; draw = commands m })
commands_of d p parts = refuse 23 p

abbrev pub drawn_by : Tables → Scope → PlainTree → Checked TypedDraw
drawn_by d s g = do
  g ← generator d s g
  Ok (record { ty = g.ty; draw = plain g.gen })

-- a generator, or `(commands MODEL)`
abbrev pub draw_at : Tables → Scope → PlainTree → Checked TypedDraw
draw_at d s (list p (more (name q w) parts)) = if bytes_eq w (codes "commands") then commands_of d p parts else drawn_by d s (list p (more (name q w) parts))
draw_at d s g = drawn_by d s g

-- a shrinker is a function from a value to the list of its candidates
abbrev pub shrink_with : Tables → TypeData → Place → PlainTrees → Checked ShrinkBy
shrink_with d t p (more f end) = do
  f ← function_at d (t ∷ []) (list_type t) f
  Ok (shrinks.Function f)
shrink_with d t p parts = refuse 23 p

abbrev pub shrink_at : Tables → TypeData → PlainTree → Checked ShrinkBy
shrink_at d t (name p w) = do
  check (bytes_eq w (codes "no-shrink")) 20 p
  Ok shrinks.Nothing
shrink_at d t (list p (more (name q w) parts)) = do
  check (bytes_eq w (codes "shrink-with")) 20 p
  shrink_with d t p parts
shrink_at d t k = refuse 20 (place_of k)

abbrev pub shrink_or_builtin : Tables → TypeData → Option PlainTree → Checked ShrinkBy
shrink_or_builtin d t None = Ok shrinks.Builtin
shrink_or_builtin d t (Some k) = shrink_at d t k

abbrev pub binder_of : Tables → List BinderData → PlainTree → PlainTree → Option PlainTree → Checked BinderData
binder_of d before x g k = do
  w ← variable_at (map (λ b. b.name) before) x
  draw ← draw_at d (scope_of before) g
  shrink ← shrink_or_builtin d draw.ty k
  Ok (record { name = w; ty = draw.ty; draw = draw.draw; shrink = shrink })

abbrev pub binder_at : Tables → List BinderData → PlainTree → Checked BinderData
binder_at d before (list p (more x (more g end))) = binder_of d before x g None
binder_at d before (list p (more x (more g (more k end)))) = binder_of d before x g (Some k)
binder_at d before (list p parts) = refuse 23 p
binder_at d before t = refuse 20 (place_of t)

abbrev pub binders_at : Tables → List BinderData → PlainTrees → Checked (List BinderData)
binders_at d before end = Ok before
binders_at d before (more t ts) = do
  b ← binder_at d before t
  binders_at d (before ++ b ∷ []) ts
