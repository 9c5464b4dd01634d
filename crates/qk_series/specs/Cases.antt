-- The cases of a property: all lists of values of its binders.
use Rattle.std.specs.Prelude.{ℕ, List, [], ◌∷◌, ◌++◌, map, Option, Some, None, Result, Ok, Err}
use Rattle.qk_base.specs.declared.outcome.Cause.{Cause}
use Rattle.qk_core.specs.Properties.{BinderData}
use Rattle.qk_value.specs.Data.{Data}
use Rattle.qk_value.specs.Kinds.{KindData}
use Rattle.qk_value.specs.View.{view_value}
use Rattle.qk_series.specs.Series.{series, tuples}
use Rattle.qk_series.specs.Small.{small}
use Rattle.qk_series.specs.declared.cases.Case.{Case}

-- the first binder is the slowest
abbrev pub cases : List KindData → ℕ → List BinderData → List (List Data)
cases kinds d binders = tuples (map (λ b. series kinds d b.ty) binders)

-- the values of a case, or those before the first that is too large, with the cause
pub record CaseData : Type 0 where
  pub values : List Data
  pub crash : Option Cause

abbrev pub after_value : List Data → Result Data Cause → (Data → CaseData) → CaseData
after_value before (Ok x) go = go x
after_value before (Err cause) go = record { values = before; crash = Some cause }

-- value by value, each being tested for its weight and then for its depth
abbrev pub case_from : List Data → List Data → CaseData
case_from before [] = record { values = before; crash = None }
case_from before (x ∷ xs) = after_value before (small x) (λ y. case_from (before ++ y ∷ []) xs)

abbrev pub case_of : List Data → CaseData
case_of xs = case_from [] xs

abbrev pub case_in : Case → CaseData
case_in c = record { values = map view_value c.values.items; crash = c.crash }
