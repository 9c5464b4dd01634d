-- What well-typed programs do: each part gives values of its type.
use Rattle.std.specs.Prelude.{◌≡◌, ℕ, List, [], ◌∷◌, None, Some, length, take, slice_get, All}
use Rattle.qk_core.specs.Definitions.{FunctionData, UserGenData, ModelData}
use Rattle.qk_core.specs.ExprData.{ExprData}
use Rattle.qk_core.specs.GenData.{GenData}
use Rattle.qk_core.specs.Program.{ProgramData}
use Rattle.qk_core.specs.Properties.{expression, runs, MarkData, label, collect, classify, tabulate, cover, PropertyData}
use Rattle.qk_value.specs.Data.{Data}
use Rattle.qk_value.specs.Types.{TypeData, bool_type, list_type}
use Rattle.qk_eval.specs.Meaning.{meaning, called}
use Rattle.qk_splitmix.specs.SplitMix.{Generator}
use Rattle.qk_gen.specs.Drawing.{drawing, drawn}
use Rattle.qk_command.specs.Drawing.{drawing_commands, drawn_values}
use Rattle.qk_command.specs.Judging.{model_of}
use Rattle.qk_series.specs.Cases.{cases}
use Rattle.qk_shrink.specs.Tuples.{candidates}
use Rattle.qk_typed.specs.TypedValues.{HasType, HaveTypes, GivesType}
use Rattle.qk_typed.specs.WellTyped.{Each, HasTypeIn, DrawsIn, IsWellTyped, types_of}

-- in an environment of these types, a typed expression means a value of its type, or crashes
abbrev pub MeaningsAreTyped : Type 0
MeaningsAreTyped =
    (c : ProgramData) → IsWellTyped c → (types : List TypeData) (env : List Data) (e : ExprData) (t : TypeData) (u : ℕ)
    → HaveTypes c.kinds types env → HasTypeIn c types e t → GivesType c.kinds t (meaning c.functions e env u)

-- with arguments of its parameters' types, a function comes to a value of its result's type, or crashes
abbrev pub CallsAreTyped : Type 0
CallsAreTyped =
    (c : ProgramData) → IsWellTyped c → (f : ℕ) (function : FunctionData) (args : List Data) (u : ℕ)
    → slice_get c.functions f ≡ Some function → HaveTypes c.kinds function.params args
    → GivesType c.kinds function.result (called c.functions f args u)

-- in an environment of these types, a typed generator draws a value of its type, or crashes
abbrev pub DrawingsAreTyped : Type 0
DrawingsAreTyped =
    (c : ProgramData) → IsWellTyped c
    → (types : List TypeData) (env : List Data) (e : GenData) (t : TypeData) (size : ℕ) (g : Generator) (u : ℕ)
    → HaveTypes c.kinds types env → DrawsIn c types e t → GivesType c.kinds t (drawing c.functions c.generators e env size g u)

-- .. and so does a generator of the program, with arguments of its parameters' types
abbrev pub DrawnCallsAreTyped : Type 0
DrawnCallsAreTyped =
    (c : ProgramData) → IsWellTyped c → (f : ℕ) (generator : UserGenData) (args : List Data) (size : ℕ) (g : Generator) (u : ℕ)
    → slice_get c.generators f ≡ Some generator → HaveTypes c.kinds generator.params args
    → GivesType c.kinds generator.result (drawn c.functions c.generators f args size g u)

-- what is drawn by a model is a list of its commands, unless drawing crashes
abbrev pub CommandsAreTyped : Type 0
CommandsAreTyped =
    (c : ProgramData) → IsWellTyped c → (i : ℕ) (m : ModelData) (size : ℕ) (g : Generator) (u : ℕ)
    → slice_get c.models i ≡ Some m → GivesType c.kinds (list_type m.command) (drawing_commands c m size g u)

-- the states in which a run of commands starts have their types, unless finding them crashes
abbrev pub StartsAreTyped : Type 0
StartsAreTyped =
    (c : ProgramData) → IsWellTyped c → (i : ℕ) (m : ModelData) (u : ℕ) → slice_get c.models i ≡ Some m
    → GivesType c.kinds m.abstract_ty (meaning c.functions m.init [] u) × GivesType c.kinds m.system_ty (meaning c.functions m.start [] u)

-- .. and so have those that a command leads to; what is asked before it and after it is true or false
abbrev pub StepsAreTyped : Type 0
StepsAreTyped =
    (c : ProgramData) → IsWellTyped c → (i : ℕ) (m : ModelData) (s r x : Data) (u : ℕ) → slice_get c.models i ≡ Some m
    → HasType c.kinds m.abstract_ty s → HasType c.kinds m.system_ty r → HasType c.kinds m.command x
    → GivesType c.kinds bool_type (called c.functions m.pre (s ∷ x ∷ []) u) × GivesType c.kinds m.abstract_ty (called c.functions m.next (s ∷ x ∷ []) u)
    × GivesType c.kinds m.system_ty (called c.functions m.step (r ∷ x ∷ []) u) × GivesType c.kinds bool_type (called c.functions m.post (s ∷ x ∷ r ∷ []) u)

-- the values that are drawn for a property's binders have their types, up to where drawing crashes
abbrev pub DrawnValuesAreTyped : Type 0
DrawnValuesAreTyped =
    (c : ProgramData) → IsWellTyped c → (i : ℕ) (p : PropertyData) (size : ℕ) (g : Generator) (u : ℕ) → slice_get c.properties i ≡ Some p
    → HaveTypes c.kinds (take (length (drawn_values c p size g u).values) (types_of p.binders)) (drawn_values c p size g u).values

-- .. and where it does not, there is a value for each binder
abbrev pub JudgedValuesAreTyped : Type 0
JudgedValuesAreTyped =
    (c : ProgramData) → IsWellTyped c → (i : ℕ) (p : PropertyData) (size : ℕ) (g : Generator) (u : ℕ) → slice_get c.properties i ≡ Some p
    → (drawn_values c p size g u).crash ≡ None → HaveTypes c.kinds (types_of p.binders) (drawn_values c p size g u).values

-- the candidates of values of the binders' types have these types, whichever way each binder is shrunk
abbrev pub CandidatesAreTyped : Type 0
CandidatesAreTyped =
    (c : ProgramData) → IsWellTyped c → (i : ℕ) (p : PropertyData) (values : List Data) (fuel : ℕ) → slice_get c.properties i ≡ Some p
    → HaveTypes c.kinds (types_of p.binders) values → All (HaveTypes c.kinds (types_of p.binders)) (candidates c p.binders values fuel)

-- what is looked at where values are judged: a given is true or false, or crashes
abbrev pub GivensAreTyped : Type 0
GivensAreTyped =
    (c : ProgramData) → IsWellTyped c → (i : ℕ) (p : PropertyData) (values : List Data) (u : ℕ) → slice_get c.properties i ≡ Some p
    → HaveTypes c.kinds (types_of p.binders) values → Each (λ e. GivesType c.kinds bool_type (meaning c.functions e values u)) p.givens

-- .. a check is an expression that is true or false, or crashes
abbrev pub ChecksAreTyped : Type 0
ChecksAreTyped =
    (c : ProgramData) → IsWellTyped c → (i : ℕ) (p : PropertyData) (values : List Data) (u : ℕ) (e : ExprData)
    → slice_get c.properties i ≡ Some p
    → HaveTypes c.kinds (types_of p.binders) values → p.check ≡ expression e → GivesType c.kinds bool_type (meaning c.functions e values u)

-- .. or there are a model and a list of its commands to run
abbrev pub RunsAreTyped : Type 0
RunsAreTyped =
    (c : ProgramData) → IsWellTyped c → (i : ℕ) (p : PropertyData) (values : List Data) (j : ℕ) → slice_get c.properties i ≡ Some p
    → HaveTypes c.kinds (types_of p.binders) values → p.check ≡ runs j
    → (m : ModelData) × (x : Data) × (model_of c p.binders j ≡ Some m) × (slice_get values j ≡ Some x) × HasType c.kinds (list_type m.command) x

-- a mark looks at a value of some type, or at one that is true or false
abbrev pub LooksAtTyped : ProgramData → List Data → ℕ → MarkData → Type 0
LooksAtTyped c env u (label name) = Unit {0}
LooksAtTyped c env u (collect e) = (t : TypeData) × GivesType c.kinds t (meaning c.functions e env u)
LooksAtTyped c env u (classify e name) = GivesType c.kinds bool_type (meaning c.functions e env u)
LooksAtTyped c env u (tabulate name e) = (t : TypeData) × GivesType c.kinds t (meaning c.functions e env u)
LooksAtTyped c env u (cover percent e name) = GivesType c.kinds bool_type (meaning c.functions e env u)

abbrev pub MarksAreTyped : Type 0
MarksAreTyped =
    (c : ProgramData) → IsWellTyped c → (i : ℕ) (p : PropertyData) (values : List Data) (u : ℕ) → slice_get c.properties i ≡ Some p
    → HaveTypes c.kinds (types_of p.binders) values → Each (LooksAtTyped c values u) p.marks

-- the cases of an exhaustive run have the binders' types, at each depth
abbrev pub EnumeratedCasesAreTyped : Type 0
EnumeratedCasesAreTyped = (c : ProgramData) (p : PropertyData) (d : ℕ) → All (HaveTypes c.kinds (types_of p.binders)) (cases c.kinds d p.binders)
