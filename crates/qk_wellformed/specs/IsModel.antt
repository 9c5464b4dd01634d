-- What the parts of a model are, after its types.
use Rattle.std.specs.Prelude.{◌≡◌, ℕ, List, [], ◌∷◌, Some}
use Rattle.qk_core.specs.Definitions.{ModelData}
use Rattle.qk_syntax.specs.PlainTrees.{PlainTree, name, list, PlainTrees, end, more}
use Rattle.qk_value.specs.Types.{TypeData, bool_type}
use Rattle.qk_generators.specs.Drawing.{generator_of}
use Rattle.qk_headers.specs.Headers.{SignatureData, ModelTypesData}
use Rattle.qk_names.specs.Names.{named_by}
use Rattle.qk_typing.specs.Operators.{Tables, function_of}
use Rattle.qk_headers.specs.Scopes.{types_of}
use Rattle.qk_names.specs.declared.names.Named.TheVariants as named
use Rattle.qk_wellformed.specs.IsExpression.{IsExpression}

-- from values of these types to values of that type
pub record IsFromTo (s : SignatureData) (params : List TypeData) (result : TypeData) : Type 0 where
  pub takes : types_of s.params ≡ params
  pub gives : s.result ≡ result

-- the name of a function of that signature
abbrev pub NamesFunction : Tables → List TypeData → TypeData → PlainTree → ℕ → Type 0
NamesFunction d params result (name p w) f = (named_by d.names w ≡ Some (named.Function f)) × IsFromTo (function_of d.headers f) params result
NamesFunction d params result t f = ⊥

-- .. and of a generator
abbrev pub NamesGenerator : Tables → List TypeData → TypeData → PlainTree → ℕ → Type 0
NamesGenerator d params result (name p w) g = (named_by d.names w ≡ Some (named.Generator g)) × IsFromTo (generator_of d.headers g) params result
NamesGenerator d params result t g = ⊥

-- commands are drawn by a generator that sees the abstract state
abbrev pub IsCommandPart : Tables → ModelTypesData → PlainTree → ModelData → Type 0
IsCommandPart d m (list p (more head (more c (more g end)))) r = NamesGenerator d (m.abstract_ty ∷ []) m.command g r.maker
IsCommandPart d m t r = ⊥

-- the abstract state at first, the precondition of a command, and the next state
abbrev pub IsAbstractPart : Tables → ModelTypesData → PlainTree → ModelData → Type 0
IsAbstractPart d m (list p (more head (more s (more init (more pre (more next end)))))) r =
    IsExpression d [] init m.abstract_ty r.init × NamesFunction d (m.abstract_ty ∷ m.command ∷ []) bool_type pre r.pre
    × NamesFunction d (m.abstract_ty ∷ m.command ∷ []) m.abstract_ty next r.next
IsAbstractPart d m t r = ⊥

-- the system at first, a step of it, and the postcondition
abbrev pub IsSystemPart : Tables → ModelTypesData → PlainTree → ModelData → Type 0
IsSystemPart d m (list p (more head (more s (more start (more step (more post end)))))) r =
    IsExpression d [] start m.system_ty r.start × NamesFunction d (m.system_ty ∷ m.command ∷ []) m.system_ty step r.step
    × NamesFunction d (m.abstract_ty ∷ m.command ∷ m.system_ty ∷ []) bool_type post r.post
IsSystemPart d m t r = ⊥

-- the types of a model
pub record HasTypes (m : ModelTypesData) (r : ModelData) : Type 0 where
  pub command : r.command ≡ m.command
  pub abstract_ty : r.abstract_ty ≡ m.abstract_ty
  pub system_ty : r.system_ty ≡ m.system_ty

-- the three parts of a model of these types
abbrev pub IsModel : Tables → ModelTypesData → PlainTrees → ModelData → Type 0
IsModel d m (more c (more s (more t end))) r = HasTypes m r × IsCommandPart d m c r × IsAbstractPart d m s r × IsSystemPart d m t r
IsModel d m parts r = ⊥
