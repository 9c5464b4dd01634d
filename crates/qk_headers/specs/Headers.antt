-- The second pass: what the headers of the items say, each type where it stands.
use Rattle.std.specs.Prelude.{ℕ, ◌&&◌, List, [], ◌∷◌, ◌++◌, map, codes, bytes_eq, nat_eq, nat_le, Option, Some, None, Ok}
use base.Stored.{Coded, coded×, coded_list, coded_via}
use Rattle.qk_base.specs.declared.place.Place.{Place}
use Rattle.qk_syntax.specs.PlainTrees.{PlainTree, number, name, list, PlainTrees, end, more, count}
use Rattle.qk_value.specs.Kinds.{KindData, MakerData, kind_code}
use Rattle.qk_value.specs.Code.{type_code}
use Rattle.qk_value.specs.Types.{TypeData}
use Rattle.qk_names.specs.Checks.{Checked, ◌>>=◌, ◌>>◌, refuse, check, place_of}
use Rattle.qk_names.specs.Names.{Declared, item_of}
use Rattle.qk_names.specs.Reserved.{Word}
use Rattle.qk_headers.specs.Scopes.{Scope, variable_code, bind, new_variable}
use Rattle.qk_headers.specs.TypesOf.{type_at, types_after}
use Rattle.qk_names.specs.declared.names.Item.{Item}
use Rattle.qk_names.specs.declared.names.Item.TheVariants as items

-- what a function or a generator takes and gives
pub record SignatureData : Type 0 where
  pub params : Scope
  pub result : TypeData

pub record ModelTypesData : Type 0 where
  pub command : TypeData
  pub abstract_ty : TypeData
  pub system_ty : TypeData

-- what is declared, by number
pub record HeadersData : Type 0 where
  pub kinds : List KindData
  pub functions : List SignatureData
  pub generators : List SignatureData
  pub models : List ModelTypesData

abbrev pub signature_code : Coded SignatureData
signature_code = coded_via (coded× (coded_list variable_code) type_code) (λ s. (s.params, s.result)) (λ a b e i. record { params = (e i).0; result = (e i).1 })

abbrev pub model_types_code : Coded ModelTypesData
model_types_code =
    coded_via (coded× type_code (coded× type_code type_code)) (λ m. (m.command, (m.abstract_ty, m.system_ty))) (λ a b e i. record { command = (e i).0; abstract_ty = (e i).1.0; system_ty = (e i).1.1 })

abbrev pub headers_code : Coded HeadersData
headers_code =
    coded_via (coded× (coded× (coded_list kind_code) (coded_list signature_code)) (coded× (coded_list signature_code) (coded_list model_types_code)))
    (λ h. ((h.kinds, h.functions), (h.generators, h.models))) (λ a b e i. record { kinds = (e i).0.0; functions = (e i).0.1; generators = (e i).1.0; models = (e i).1.1 })

abbrev pub no_headers : HeadersData
no_headers = record { kinds = []; functions = []; generators = []; models = [] }

-- a maker of that name, with its fields
abbrev pub named_maker : List Declared → Word → PlainTrees → Checked MakerData
named_maker names w fields = do
  types ← types_after names [] fields
  Ok (record { name = w; fields = types })

abbrev pub maker_at : List Declared → PlainTree → Checked MakerData
maker_at names (list p (more (name q w) fields)) = named_maker names w fields
maker_at names t = refuse 20 (place_of t)

-- makers one after another, after these
abbrev pub makers_after : List Declared → List MakerData → PlainTrees → Checked (List MakerData)
makers_after names before end = Ok before
makers_after names before (more t ts) = do
  next ← maker_at names t
  makers_after names (before ++ next ∷ []) ts

abbrev pub named_parameter : List Declared → Scope → Place → Word → PlainTree → Checked Scope
named_parameter names before p w t = do
  w ← new_variable (map (λ v. v.name) before) p w
  t ← type_at names t
  Ok (bind before w t)

-- a parameter after those before it
abbrev pub parameter_at : List Declared → Scope → PlainTree → Checked Scope
parameter_at names before (list p (more (name q w) (more t end))) = named_parameter names before q w t
parameter_at names before t = refuse 20 (place_of t)

abbrev pub parameters_at : List Declared → Scope → PlainTrees → Checked Scope
parameters_at names before end = Ok before
parameters_at names before (more t ts) = do
  before ← parameter_at names before t
  parameters_at names before ts

abbrev pub parameter_list : List Declared → Place → PlainTree → Checked Scope
parameter_list names p (list q ts) = do
  check (nat_le (count ts) 16) 23 p
  parameters_at names [] ts
parameter_list names p t = refuse 20 (place_of t)

-- what stands after the name of a function or a generator
abbrev pub signature_at : List Declared → Place → PlainTrees → Checked SignatureData
signature_at names p (more params (more t (more body end))) = do
  params ← parameter_list names p params
  t ← type_at names t
  Ok (record { params = params; result = t })
signature_at names p parts = refuse 23 p

-- a part of a model that has this head and, the head counted, so many parts; its first part is a type
abbrev pub model_part : List Declared → Word → ℕ → PlainTree → Checked TypeData
model_part names head parts (list p (more (name q w) (more t ts))) = do
  check (bytes_eq w head) 20 p
  check (nat_eq (count ts) (parts)) 23 p
  type_at names t
model_part names head parts (list p (more (name q w) end)) = do
  check (bytes_eq w head) 20 p
  refuse 23 p
model_part names head parts t = refuse 20 (place_of t)

abbrev pub model_types : List Declared → Place → PlainTrees → Checked ModelTypesData
model_types names p (more c (more s (more r end))) = do
  c ← model_part names (codes "command") 1 c
  s ← model_part names (codes "abstract") 3 s
  r ← model_part names (codes "system") 3 r
  Ok (record { command = c; abstract_ty = s; system_ty = r })
model_types names p parts = refuse 23 p

-- the binders of a property: a list of 1 to 16
abbrev pub forall_parts : Place → PlainTrees → Checked (Unit {0})
forall_parts p (more (list q binders) clauses) = check (nat_le 1 (count binders) && nat_le (count binders) 16) 23 p
forall_parts p (more t clauses) = refuse 20 (place_of t)
forall_parts p end = refuse 23 p

abbrev pub forall_at : PlainTree → Checked (Unit {0})
forall_at (list p (more (name q w) parts)) = do
  check (bytes_eq w (codes "forall")) 20 p
  forall_parts p parts
forall_at t = refuse 20 (place_of t)

abbrev pub property_shape : Place → PlainTrees → Checked (Unit {0})
property_shape p (more t end) = forall_at t
property_shape p parts = refuse 23 p

abbrev pub item_header : List Declared → HeadersData → Place → Word → Option Item → PlainTrees → Checked HeadersData
item_header names h p w (Some items.Kind) parts = do
  makers ← makers_after names [] parts
  Ok (record h { kinds = h.kinds ++ record { name = w; makers = makers } ∷ [] })
item_header names h p w (Some items.Function) parts = do
  s ← signature_at names p parts
  Ok (record h { functions = h.functions ++ s ∷ [] })
item_header names h p w (Some items.Generator) parts = do
  s ← signature_at names p parts
  Ok (record h { generators = h.generators ++ s ∷ [] })
item_header names h p w (Some items.Model) parts = do
  m ← model_types names p parts
  Ok (record h { models = h.models ++ m ∷ [] })
item_header names h p w (Some items.Property) parts = do
  property_shape p parts
  Ok h
item_header names h p w None parts = refuse 20 p

abbrev pub header_at : List Declared → HeadersData → PlainTree → Checked HeadersData
header_at names h (list p (more (name q w) (more (name r x) parts))) = item_header names h p x (item_of w) parts
header_at names h t = refuse 20 (place_of t)

abbrev pub headers_after : List Declared → HeadersData → PlainTrees → Checked HeadersData
headers_after names h end = Ok h
headers_after names h (more item items) = do
  h ← header_at names h item
  headers_after names h items

abbrev pub headers_of : List Declared → PlainTrees → Checked HeadersData
headers_of names trees = headers_after names no_headers trees
