-- Which trees stand for which program: its names, its headers and its bodies.
use Rattle.std.specs.Prelude.{◌≡◌, ◌≤◌, List, [], ◌∷◌, ◌++◌, length, Some, unwrap_or, slice_get}
use Rattle.qk_core.specs.Definitions.{FunctionData, UserGenData, ModelData}
use Rattle.qk_core.specs.Program.{ProgramData}
use Rattle.qk_core.specs.Properties.{PropertyData}
use Rattle.qk_syntax.specs.PlainTrees.{PlainTree, name, list, PlainTrees, end, more}
use Rattle.qk_types.specs.Bodies.{no_model}
use Rattle.qk_generators.specs.Drawing.{generator_of}
use Rattle.qk_headers.specs.Headers.{SignatureData, HeadersData}
use Rattle.qk_names.specs.Names.{Declared, item_of}
use Rattle.qk_typing.specs.Operators.{Tables, function_of}
use Rattle.qk_names.specs.Reserved.{Word}
use Rattle.qk_headers.specs.Scopes.{types_of}
use Rattle.qk_names.specs.declared.names.Item.{Item}
use Rattle.qk_names.specs.declared.names.Item.TheVariants as items
use Rattle.qk_wellformed.specs.AreBinders.{AreBinders}
use Rattle.qk_wellformed.specs.AreClauses.{AreClauses}
use Rattle.qk_wellformed.specs.AreHeaders.{AreHeaders}
use Rattle.qk_wellformed.specs.AreNames.{AreNames}
use Rattle.qk_wellformed.specs.IsExpression.{IsExpression}
use Rattle.qk_wellformed.specs.IsGenerator.{IsGenerator}
use Rattle.qk_wellformed.specs.IsModel.{IsModel}

-- a function of that signature: its body has the type that it gives, and sees its parameters
abbrev pub IsFunction : Tables → SignatureData → PlainTrees → FunctionData → Type 0
IsFunction d s (more params (more t (more body end))) f = (f.params ≡ types_of s.params) × (f.result ≡ s.result) × IsExpression d s.params body s.result f.body
IsFunction d s parts f = ⊥

-- .. and a generator
abbrev pub IsUserGenerator : Tables → SignatureData → PlainTrees → UserGenData → Type 0
IsUserGenerator d s (more params (more t (more body end))) g = (g.params ≡ types_of s.params) × (g.result ≡ s.result) × IsGenerator d s.params body s.result g.body
IsUserGenerator d s parts g = ⊥

-- binders, and clauses over them: at most 16 givens and 16 marks
abbrev pub IsProperty : Tables → Word → PlainTrees → PropertyData → Type 0
IsProperty d w (more (list p (more head (more (list q binders) clauses))) end) r =
    (r.name ≡ w) × AreBinders d [] binders r.binders × AreClauses d r.binders clauses r.givens r.check r.marks × (length r.givens ≤ 16) × (length r.marks ≤ 16)
IsProperty d w parts r = ⊥

-- what an item adds to the bodies before it; each is the next of its sort
abbrev pub AddsBody : Tables → ProgramData → Word → Item → PlainTrees → ProgramData → Type 0
AddsBody d c w items.Kind parts after = after ≡ c
AddsBody d c w items.Function parts after = (f : FunctionData) × IsFunction d (function_of d.headers (length c.functions)) parts f × (after ≡ record c { functions = c.functions ++ f ∷ [] })
AddsBody d c w items.Generator parts after =
    (g : UserGenData) × IsUserGenerator d (generator_of d.headers (length c.generators)) parts g × (after ≡ record c { generators = c.generators ++ g ∷ [] })
AddsBody d c w items.Model parts after =
    (m : ModelData) × IsModel d (unwrap_or (slice_get d.headers.models (length c.models)) no_model) parts m × (after ≡ record c { models = c.models ++ m ∷ [] })
AddsBody d c w items.Property parts after = (r : PropertyData) × IsProperty d w parts r × (after ≡ record c { properties = c.properties ++ r ∷ [] })

abbrev pub IsBody : Tables → ProgramData → PlainTree → ProgramData → Type 0
IsBody d c (list p (more (name q w) (more (name r x) parts))) after = (item : Item) × (item_of w ≡ Some item) × AddsBody d c x item parts after
IsBody d c tree after = ⊥

abbrev pub BodiesFrom : Tables → ProgramData → PlainTrees → ProgramData → Type 0
BodiesFrom d c end after = after ≡ c
BodiesFrom d c (more item trees) after = (between : ProgramData) × IsBody d c item between × BodiesFrom d between trees after

-- the types are declared, and no item has a body yet
abbrev pub no_bodies : HeadersData → ProgramData
no_bodies h = record { kinds = h.kinds; functions = []; generators = []; models = []; properties = [] }

abbrev pub AreBodies : Tables → PlainTrees → ProgramData → Type 0
AreBodies d trees core = BodiesFrom d (no_bodies d.headers) trees core

-- the trees stand for this program
pub record StandsFor (trees : PlainTrees) (core : ProgramData) : Type 0 where
  pub names : List Declared
  pub headers : HeadersData
  pub declared : AreNames trees names
  pub headed : AreHeaders names trees headers
  pub bodies : AreBodies (record { names = names; headers = headers }) trees core
