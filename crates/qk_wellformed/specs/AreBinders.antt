-- Which binders a property has, each seeing those before it.
use Rattle.std.specs.Prelude.{◌≡◌, ℕ, Bool, true, false, List, [], ◌∷◌, ◌++◌, map, codes, bytes_eq, Some}
use Rattle.qk_core.specs.GenData.{GenData}
use Rattle.qk_core.specs.Properties.{BinderData, DrawData, plain, commands}
use Rattle.qk_core.specs.declared.property.ShrinkBy.{ShrinkBy}
use Rattle.qk_core.specs.declared.property.ShrinkBy.TheVariants as shrinks
use Rattle.qk_syntax.specs.PlainTrees.{PlainTree, name, list, PlainTrees, end, more}
use Rattle.qk_value.specs.Types.{TypeData, list_type}
use Rattle.qk_clauses.specs.Binders.{scope_of, command_list}
use Rattle.qk_clauses.specs.BoundView.{is_commands}
use Rattle.qk_names.specs.Names.{named_by}
use Rattle.qk_typing.specs.Operators.{Tables}
use Rattle.qk_headers.specs.Scopes.{Scope}
use Rattle.qk_names.specs.declared.names.Named.TheVariants as named
use Rattle.qk_wellformed.specs.IsGenerator.{IsGenerator}
use Rattle.qk_wellformed.specs.IsModel.{NamesFunction}
use Rattle.qk_wellformed.specs.IsVariable.{IsVariable}

-- the name of a model
abbrev pub NamesModel : Tables → PlainTree → ℕ → Type 0
NamesModel d (name p w) m = named_by d.names w ≡ Some (named.Model m)
NamesModel d t m = ⊥

-- a list that `commands` heads draws lists of commands of a model; every other tree is a generator
abbrev pub DrawsBy : Tables → Scope → Bool → PlainTree → TypeData → DrawData → Type 0
DrawsBy d s true (list p (more head (more model end))) t draw = (m : ℕ) × NamesModel d model m × (t ≡ command_list d.headers m) × (draw ≡ commands m)
DrawsBy d s true tree t draw = ⊥
DrawsBy d s false tree t draw = (g : GenData) × IsGenerator d s tree t g × (draw ≡ plain g)

abbrev pub IsDraw : Tables → Scope → PlainTree → TypeData → DrawData → Type 0
IsDraw d s tree t draw = DrawsBy d s (is_commands tree) tree t draw

-- values of the type are not shrunk, or by a function that gives the candidates of each
abbrev pub IsShrink : Tables → TypeData → PlainTree → ShrinkBy → Type 0
IsShrink d t (name p w) k = (bytes_eq w (codes "no-shrink") ≡ true) × (k ≡ shrinks.Nothing)
IsShrink d t (list p (more (name q w) (more f end))) k = (bytes_eq w (codes "shrink-with") ≡ true) × ((g : ℕ) × NamesFunction d (t ∷ []) (list_type t) f g × (k ≡ shrinks.Function g))
IsShrink d t tree k = ⊥

-- a variable that no binder before it has, what it is drawn by, and how it shrinks
abbrev pub IsBinder : Tables → List BinderData → PlainTree → BinderData → Type 0
IsBinder d before (list p (more x (more g end))) b = IsVariable (map (λ b. b.name) before) x b.name × IsDraw d (scope_of before) g b.ty b.draw × (b.shrink ≡ shrinks.Builtin)
IsBinder d before (list p (more x (more g (more k end)))) b = IsVariable (map (λ b. b.name) before) x b.name × IsDraw d (scope_of before) g b.ty b.draw × IsShrink d b.ty k b.shrink
IsBinder d before tree b = ⊥

abbrev pub AreBinders : Tables → List BinderData → PlainTrees → List BinderData → Type 0
AreBinders d before end [] = Unit {0}
AreBinders d before (more u us) (b ∷ bs) = IsBinder d before u b × AreBinders d (before ++ b ∷ []) us bs
AreBinders d before us bs = ⊥
