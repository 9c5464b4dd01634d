-- What the headers of the items of a program say.
use Rattle.std.specs.Prelude.{◌≡◌, ℕ, ◌≤◌, true, List, [], ◌∷◌, ◌++◌, map, codes, bytes_eq, Some}
use Rattle.qk_syntax.specs.PlainTrees.{PlainTree, name, list, PlainTrees, end, more, count}
use Rattle.qk_value.specs.Kinds.{MakerData}
use Rattle.qk_value.specs.Types.{TypeData}
use Rattle.qk_headers.specs.Headers.{SignatureData, ModelTypesData, HeadersData, no_headers}
use Rattle.qk_names.specs.Names.{Declared, item_of}
use Rattle.qk_names.specs.Reserved.{Word}
use Rattle.qk_headers.specs.Scopes.{Scope, bind}
use Rattle.qk_names.specs.declared.names.Item.{Item}
use Rattle.qk_names.specs.declared.names.Item.TheVariants as items
use Rattle.qk_wellformed.specs.IsType.{IsType}
use Rattle.qk_wellformed.specs.IsVariable.{MayBeBound}

abbrev pub AreTypes : List Declared → PlainTrees → List TypeData → Type 0
AreTypes names end [] = Unit {0}
AreTypes names (more u us) (t ∷ ts) = IsType names u t × AreTypes names us ts
AreTypes names us ts = ⊥

abbrev pub AreMakers : List Declared → PlainTrees → List MakerData → Type 0
AreMakers names end [] = Unit {0}
AreMakers names (more (list p (more (name q w) fields)) trees) (m ∷ ms) = (m.name ≡ w) × AreTypes names fields m.fields × AreMakers names trees ms
AreMakers names trees ms = ⊥

-- variables with their types, each of a name of its own, after these
abbrev pub AreParameters : List Declared → Scope → PlainTrees → Scope → Type 0
AreParameters names before end after = after ≡ before
AreParameters names before (more (list p (more (name q w) (more u end))) trees) after =
    (t : TypeData) × MayBeBound (map (λ v. v.name) before) w × IsType names u t × AreParameters names (bind before w t) trees after
AreParameters names before trees after = ⊥

-- at most 16 parameters, a type and a body
abbrev pub IsSignature : List Declared → PlainTrees → SignatureData → Type 0
IsSignature names (more (list q params) (more u (more body end))) s = (count params ≤ 16) × AreParameters names [] params s.params × IsType names u s.result
IsSignature names parts s = ⊥

-- a list of this head, then a type, and then so many parts
abbrev pub IsModelPart : List Declared → Word → ℕ → PlainTree → TypeData → Type 0
IsModelPart names head n (list p (more (name q w) (more u us))) t = (bytes_eq w head ≡ true) × (count us ≡ n) × IsType names u t
IsModelPart names head n tree t = ⊥

abbrev pub HasModelTypes : List Declared → PlainTrees → ModelTypesData → Type 0
HasModelTypes names (more c (more s (more r end))) m =
    IsModelPart names (codes "command") 1 c m.command × IsModelPart names (codes "abstract") 3 s m.abstract_ty × IsModelPart names (codes "system") 3 r m.system_ty
HasModelTypes names parts m = ⊥

-- a forall of 1 to 16 binders
abbrev pub IsForall : PlainTrees → Type 0
IsForall (more (list p (more (name q w) (more (list r binders) clauses))) end) = (bytes_eq w (codes "forall") ≡ true) × (1 ≤ count binders) × (count binders ≤ 16)
IsForall parts = ⊥

-- what an item adds to the headers before it
abbrev pub AddsHeader : List Declared → HeadersData → Word → Item → PlainTrees → HeadersData → Type 0
AddsHeader names h w items.Kind parts after = (makers : List MakerData) × AreMakers names parts makers × (after ≡ record h { kinds = h.kinds ++ record { name = w; makers = makers } ∷ [] })
AddsHeader names h w items.Function parts after = (s : SignatureData) × IsSignature names parts s × (after ≡ record h { functions = h.functions ++ s ∷ [] })
AddsHeader names h w items.Generator parts after = (s : SignatureData) × IsSignature names parts s × (after ≡ record h { generators = h.generators ++ s ∷ [] })
AddsHeader names h w items.Model parts after = (m : ModelTypesData) × HasModelTypes names parts m × (after ≡ record h { models = h.models ++ m ∷ [] })
AddsHeader names h w items.Property parts after = IsForall parts × (after ≡ h)

abbrev pub IsHeader : List Declared → HeadersData → PlainTree → HeadersData → Type 0
IsHeader names h (list p (more (name q w) (more (name r x) parts))) after = (item : Item) × (item_of w ≡ Some item) × AddsHeader names h x item parts after
IsHeader names h tree after = ⊥

abbrev pub HeadersFrom : List Declared → HeadersData → PlainTrees → HeadersData → Type 0
HeadersFrom names h end after = after ≡ h
HeadersFrom names h (more item trees) after = (between : HeadersData) × IsHeader names h item between × HeadersFrom names between trees after

abbrev pub AreHeaders : List Declared → PlainTrees → HeadersData → Type 0
AreHeaders names trees headers = HeadersFrom names no_headers trees headers
