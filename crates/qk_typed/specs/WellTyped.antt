-- Which programs are well typed.
use Rattle.std.specs.Prelude.{◌≡◌, ℕ, List, [], ◌∷◌, ◌++◌, map, Some, slice_get}
use Rattle.qk_value.specs.Kinds.{KindData}
use Rattle.qk_value.specs.Types.{TypeData, bool_type, list_type}
use Rattle.qk_core.specs.Definitions.{FunctionData, UserGenData, ModelData}
use Rattle.qk_core.specs.ExprData.{ExprData}
use Rattle.qk_core.specs.GenData.{GenData}
use Rattle.qk_core.specs.Program.{ProgramData}
use Rattle.qk_core.specs.Properties.{DrawData, plain, commands, CheckData, expression, runs, MarkData, label, collect, classify, tabulate, cover, BinderData, PropertyData}
use Rattle.qk_core.specs.declared.property.ShrinkBy.{ShrinkBy}
use Rattle.qk_core.specs.declared.property.ShrinkBy.TheVariants.{Builtin, Function, Nothing}
use Rattle.qk_typed.specs.TypedExpressions.{IsType, AreTypes, IsFunction, IsTyped}
use Rattle.qk_typed.specs.TypedGenerators.{IsGenerator, DrawsType}

-- in an environment of these types, the expression of the program has that type
abbrev pub HasTypeIn : ProgramData → List TypeData → ExprData → TypeData → Type 0
HasTypeIn c env e t = IsTyped c.kinds c.functions env e t

-- .. and the generator draws values of it
abbrev pub DrawsIn : ProgramData → List TypeData → GenData → TypeData → Type 0
DrawsIn c env g t = DrawsType c.kinds c.functions c.generators env g t

-- it holds of each
abbrev pub Each : {X : Type 0} → (X → Type 0) → List X → Type 0
Each holds [] = Unit {0}
Each holds (x ∷ xs) = holds x × Each holds xs

abbrev pub IsTypedKind : List KindData → KindData → Type 0
IsTypedKind kinds kind = Each (λ maker. AreTypes kinds maker.fields) kind.makers

-- a body sees the arguments, and has the type of the result
pub record IsTypedFunction (c : ProgramData) (f : FunctionData) : Type 0 where
  pub params : AreTypes c.kinds f.params
  pub result : IsType c.kinds f.result
  pub body : HasTypeIn c f.params f.body f.result

pub record IsTypedGenerator (c : ProgramData) (g : UserGenData) : Type 0 where
  pub params : AreTypes c.kinds g.params
  pub result : IsType c.kinds g.result
  pub body : DrawsIn c g.params g.body g.result

-- commands are drawn in an abstract state, which they lead to the next; the system takes a step by each, and both new states are compared
pub record IsTypedModel (c : ProgramData) (m : ModelData) : Type 0 where
  pub command : IsType c.kinds m.command
  pub abstract_ty : IsType c.kinds m.abstract_ty
  pub system_ty : IsType c.kinds m.system_ty
  pub maker : IsGenerator c.generators m.maker (m.abstract_ty ∷ []) m.command
  pub init : HasTypeIn c [] m.init m.abstract_ty
  pub pre : IsFunction c.functions m.pre (m.abstract_ty ∷ m.command ∷ []) bool_type
  pub next : IsFunction c.functions m.next (m.abstract_ty ∷ m.command ∷ []) m.abstract_ty
  pub start : HasTypeIn c [] m.start m.system_ty
  pub step : IsFunction c.functions m.step (m.system_ty ∷ m.command ∷ []) m.system_ty
  pub post : IsFunction c.functions m.post (m.abstract_ty ∷ m.command ∷ m.system_ty ∷ []) bool_type

abbrev pub types_of : List BinderData → List TypeData
types_of binders = map (λ b. b.ty) binders

-- what is drawn has the type: by a generator that sees the values before, or as a list of a model's commands
abbrev pub IsTypedDraw : ProgramData → List TypeData → DrawData → TypeData → Type 0
IsTypedDraw c env (plain g) t = DrawsIn c env g t
IsTypedDraw c env (commands m) t = (model : ModelData) × (slice_get c.models m ≡ Some model) × (t ≡ list_type model.command)

-- a function lists candidates of the type
abbrev pub IsTypedShrink : ProgramData → ShrinkBy → TypeData → Type 0
IsTypedShrink c Builtin t = Unit {0}
IsTypedShrink c (Function f) t = IsFunction c.functions f (t ∷ []) (list_type t)
IsTypedShrink c Nothing t = Unit {0}

pub record IsTypedBinder (c : ProgramData) (before : List TypeData) (b : BinderData) : Type 0 where
  pub ty : IsType c.kinds b.ty
  pub draw : IsTypedDraw c before b.draw b.ty
  pub shrink : IsTypedShrink c b.shrink b.ty

-- each sees those before it
abbrev pub AreTypedBinders : ProgramData → List TypeData → List BinderData → Type 0
AreTypedBinders c before [] = Unit {0}
AreTypedBinders c before (b ∷ bs) = IsTypedBinder c before b × AreTypedBinders c (before ++ b.ty ∷ []) bs

-- commands are run of a binder that draws them
abbrev pub IsTypedCheck : ProgramData → List BinderData → CheckData → Type 0
IsTypedCheck c bs (expression e) = HasTypeIn c (types_of bs) e bool_type
IsTypedCheck c bs (runs i) = (b : BinderData) × (m : ℕ) × (slice_get bs i ≡ Some b) × (b.draw ≡ commands m)

abbrev pub IsTypedMark : ProgramData → List TypeData → MarkData → Type 0
IsTypedMark c env (label name) = Unit {0}
IsTypedMark c env (collect e) = (t : TypeData) × HasTypeIn c env e t
IsTypedMark c env (classify e name) = HasTypeIn c env e bool_type
IsTypedMark c env (tabulate name e) = (t : TypeData) × HasTypeIn c env e t
IsTypedMark c env (cover percent e name) = HasTypeIn c env e bool_type

pub record IsTypedProperty (c : ProgramData) (p : PropertyData) : Type 0 where
  pub binders : AreTypedBinders c [] p.binders
  pub givens : Each (λ e. HasTypeIn c (types_of p.binders) e bool_type) p.givens
  pub check : IsTypedCheck c p.binders p.check
  pub marks : Each (IsTypedMark c (types_of p.binders)) p.marks

-- each part of the program is typed, and each number in it is that of an entry of its table
pub record IsWellTyped (c : ProgramData) : Type 0 where
  pub kinds : Each (IsTypedKind c.kinds) c.kinds
  pub functions : Each (IsTypedFunction c) c.functions
  pub generators : Each (IsTypedGenerator c) c.generators
  pub models : Each (IsTypedModel c) c.models
  pub properties : Each (IsTypedProperty c) c.properties
