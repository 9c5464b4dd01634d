-- What the names of a program stand for in its tables.
use Rattle.std.proofs.Common.{◌≡◌, ℕ, ◌<◌, List, [], map, length, Some, slice_get}
use Rattle.qk_core.specs.Definitions.{FunctionData, UserGenData}
use Rattle.qk_generators.specs.Drawing.{generator_of}
use Rattle.qk_headers.specs.Headers.{HeadersData}
use Rattle.qk_headers.specs.Scopes.{types_of}
use Rattle.qk_names.specs.Names.{named_by}
use Rattle.qk_names.specs.Reserved.{Word}
use Rattle.qk_names.specs.declared.names.Named.{Named}
use Rattle.qk_names.specs.declared.names.Named.TheVariants as named
use Rattle.qk_typed.specs.WellTyped.{Each}
use Rattle.qk_typing.specs.Operators.{Tables, function_of}
use Rattle.qk_value.specs.Kinds.{MakerData, KindData, maker_of}
use Rattle.qk_wellformed.specs.IsExpression.{AreNew}

-- an entry of its table
abbrev pub Stands : HeadersData → Named → Type 0
Stands h (named.Kind k) = k < length h.kinds
Stands h (named.Maker k m) = (maker : MakerData) × (maker_of h.kinds k m ≡ Some maker)
Stands h (named.Function f) = f < length h.functions
Stands h (named.Generator g) = g < length h.generators
Stands h (named.Model m) = m < length h.models
Stands h (named.Property p) = Unit {0}

-- the makers of a kind have names of their own
abbrev pub HasNewMakers : KindData → Type 0
HasNewMakers kind = AreNew [] (map (λ m. m.name) kind.makers)

-- the names of the tables stand for their entries, and there are bodies for all
pub record Fits (d : Tables) (functions : List FunctionData) (generators : List UserGenData) : Type 0 where
  pub stand : (w : Word) (what : Named) → named_by d.names w ≡ Some what → Stands d.headers what
  pub new : Each HasNewMakers d.headers.kinds
  pub function_at : (f : ℕ) → f < length d.headers.functions → (function : FunctionData) × (slice_get functions f ≡ Some function) × (function.params ≡ types_of (function_of d.headers f).params) × (function.result ≡ (function_of d.headers f).result)
  pub generator_at : (g : ℕ) → g < length d.headers.generators → (generator : UserGenData) × (slice_get generators g ≡ Some generator) × (generator.params ≡ types_of (generator_of d.headers g).params) × (generator.result ≡ (generator_of d.headers g).result)
