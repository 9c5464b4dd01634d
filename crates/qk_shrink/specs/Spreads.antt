-- What is prepared of the values of binders: the candidates of each come by its type, or are listed.
use Rattle.std.specs.Prelude.{ℕ, List, [], ◌∷◌, ◌++◌, map}
use Rattle.qk_core.specs.Program.{ProgramData}
use Rattle.qk_core.specs.Properties.{BinderData}
use Rattle.qk_core.specs.declared.property.ShrinkBy.{ShrinkBy}
use Rattle.qk_core.specs.declared.property.ShrinkBy.TheVariants.{Builtin, Function, Nothing}
use Rattle.qk_value.specs.Data.{Data}
use Rattle.qk_value.specs.Kinds.{KindData}
use Rattle.qk_value.specs.Types.{TypeData}
use Rattle.qk_eval.specs.Meaning.{called}
use Rattle.qk_shrink.specs.Candidates.{value_candidates}
use Rattle.qk_shrink.specs.Tuples.{answered}

pub data WayData : Type 0 where
  by_type : TypeData → WayData
  listed : List Data → WayData

pub record SpreadData : Type 0 where
  pub kinds : List KindData
  pub ways : List WayData
  pub count : ℕ

abbrev pub way_candidates : List KindData → WayData → Data → List Data
way_candidates kinds (by_type t) x = value_candidates kinds t x
way_candidates kinds (listed ys) x = ys

-- the first value's candidates with the others kept, then the second's, and so on
abbrev pub in_turn : List KindData → List WayData → List Data → List (List Data)
in_turn kinds (w ∷ ws) (x ∷ xs) = map (λ y. y ∷ xs) (way_candidates kinds w x) ++ map (λ ys. x ∷ ys) (in_turn kinds ws xs)
in_turn kinds ws xs = []

-- the candidates that a spread stands for, of the values that it was made for
abbrev pub spread_over : SpreadData → List Data → List (List Data)
spread_over s xs = in_turn s.kinds s.ways xs

-- how the candidates of a value come
abbrev pub way_of : ProgramData → ℕ → TypeData → ShrinkBy → Data → WayData
way_of core fuel t Builtin x = by_type t
way_of core fuel t (Function f) x = listed (answered (called core.functions f (x ∷ []) fuel))
way_of core fuel t Nothing x = listed []

abbrev pub ways_of : ProgramData → List BinderData → List Data → ℕ → List WayData
ways_of core (b ∷ bs) (x ∷ xs) fuel = way_of core fuel b.ty b.shrink x ∷ ways_of core bs xs fuel
ways_of core bs xs fuel = []
