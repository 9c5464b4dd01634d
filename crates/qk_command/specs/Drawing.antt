-- What is drawn for the binders of a property.
use Rattle.std.specs.Prelude.{ℕ, zero, suc, pos, List, [], ◌∷◌, ◌++◌, Option, Some, None, slice_get, if◌then◌else◌}
use Rattle.qk_base.specs.declared.outcome.Cause.{Cause}
use Rattle.qk_core.specs.Definitions.{ModelData}
use Rattle.qk_core.specs.Program.{ProgramData}
use Rattle.qk_core.specs.Properties.{DrawData, plain, commands, BinderData, PropertyData}
use Rattle.qk_eval.specs.Meaning.{Evaluated, result, crash, and_then, or_crash, meaning, called}
use Rattle.qk_eval.specs.Parts.{truth_of, small}
use Rattle.qk_gen.specs.Drawing.{Draws, chosen, length_of, drawing, drawn}
use Rattle.qk_splitmix.specs.SplitMix.{Generator, left, right}
use Rattle.qk_value.specs.Data.{Data, list, end, datas_of}

-- so many turns, each with a command that is drawn for the state; one whose precondition is false is left out, each other is added to
-- those before it
abbrev pub turns : ProgramData → ModelData → ℕ → ℕ → List Data → Data → Draws Data
turns c m size zero before s g u = result (list (datas_of before)) u
turns c m size (suc n) before s g u =
    and_then (drawn c.functions c.generators m.maker (s ∷ []) size (left g) u) (λ x v.
    and_then (called c.functions m.pre (s ∷ x ∷ []) v) (λ y w.
    if truth_of y
    then and_then (or_crash (small (list (datas_of (before ++ x ∷ [])))) w) (λ _ w.
    and_then (called c.functions m.next (s ∷ x ∷ []) w) (λ t u. turns c m size n (before ++ x ∷ []) t (right g) u))
    else turns c m size n before s (right g) w))

-- a list of commands: the left half chooses the number of turns, the right half draws them
abbrev pub drawing_commands : ProgramData → ModelData → ℕ → Draws Data
drawing_commands c m size g u =
    and_then (meaning c.functions m.init [] u) (λ s v. turns c m size (length_of (chosen (left g) (pos 0) (pos size))) [] s (right g) v)

abbrev pub model_draws : ProgramData → Option ModelData → ℕ → Draws Data
model_draws c None size g u = result (list end) u
model_draws c (Some m) size g u = drawing_commands c m size g u

-- the value of one binder, which sees those before it
abbrev pub binder_draws : ProgramData → DrawData → List Data → ℕ → Draws Data
binder_draws c (plain e) env size g u = drawing c.functions c.generators e env size g u
binder_draws c (commands m) env size g u = model_draws c (slice_get c.models m) size g u

-- the values of the binders, or of those before the one whose drawing crashed
pub record DrawnValues : Type 0 where
  pub values : List Data
  pub crash : Option Cause

abbrev pub after_drawing : Evaluated Data → List Data → (Data → ℕ → DrawnValues) → DrawnValues
after_drawing (result x u) before go = go x u
after_drawing (crash c) before go = record { values = before; crash = Some c }

-- binder by binder, a generator being split off for each
abbrev pub drawn_from : ProgramData → List BinderData → List Data → ℕ → Generator → ℕ → DrawnValues
drawn_from c [] before size g u = record { values = before; crash = None }
drawn_from c (b ∷ bs) before size g u = after_drawing (binder_draws c b.draw before size (left g) u) before (λ x v. drawn_from c bs (before ++ x ∷ []) size (right g) v)

abbrev pub drawn_values : ProgramData → PropertyData → ℕ → Generator → ℕ → DrawnValues
drawn_values c p size g u = drawn_from c p.binders [] size g u
