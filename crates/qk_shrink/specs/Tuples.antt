-- The candidates of the values of a property's binders.
use Rattle.std.specs.Prelude.{ℕ, List, [], ◌∷◌, ◌++◌, map}
use Rattle.qk_core.specs.Program.{ProgramData}
use Rattle.qk_core.specs.Properties.{BinderData}
use Rattle.qk_core.specs.declared.property.ShrinkBy.{ShrinkBy}
use Rattle.qk_core.specs.declared.property.ShrinkBy.TheVariants.{Builtin, Function, Nothing}
use Rattle.qk_value.specs.Data.{Data, listed_data}
use Rattle.qk_value.specs.Types.{TypeData}
use Rattle.qk_eval.specs.Meaning.{Evaluated, result, crash, called}
use Rattle.qk_eval.specs.Parts.{items_of}
use Rattle.qk_shrink.specs.Candidates.{value_candidates}

-- the items of a list that was answered; a crash has none
abbrev pub answered : Evaluated Data → List Data
answered (result x u) = listed_data (items_of x)
answered (crash c) = []

-- the candidates of a value of that type: by the type, or those that a function lists with so many units of fuel, or none
abbrev pub shrunk : ProgramData → ℕ → TypeData → ShrinkBy → Data → List Data
shrunk core fuel t Builtin x = value_candidates core.kinds t x
shrunk core fuel t (Function f) x = answered (called core.functions f (x ∷ []) fuel)
shrunk core fuel t Nothing x = []

-- the first binder's candidates with the other values kept, then the second's, and so on; the values are one for each binder
abbrev pub candidates : ProgramData → List BinderData → List Data → ℕ → List (List Data)
candidates core (b ∷ bs) (x ∷ xs) fuel = map (λ y. y ∷ xs) (shrunk core fuel b.ty b.shrink x) ++ map (λ ys. x ∷ ys) (candidates core bs xs fuel)
candidates core bs xs fuel = []
