-- What pending work comes to.
use Rattle.std.specs.Prelude.{ℕ, ◌+◌, ◌-◌, List, [], ◌∷◌, ◌++◌, Result, Ok, Err, nat_lt, if◌then◌else◌, fold, take, length}
use Rattle.qk_base.specs.declared.outcome.Cause.{Cause}
use Rattle.qk_base.specs.declared.outcome.Cause.TheVariants.{Weight}
use Rattle.qk_core.specs.Definitions.{FunctionData, UserGenData}
use Rattle.qk_core.specs.ExprData.{ExprsData}
use Rattle.qk_core.specs.GenData.{GensData}
use Rattle.qk_core.specs.GenView.{view_gen, view_gens}
use Rattle.qk_eval.specs.Meaning.{Evaluated, result, crash, and_then, or_crash, mean_all, calling}
use Rattle.qk_eval.specs.Parts.{small}
use Rattle.qk_gen.specs.Drawing.{Draws, elements, draws_each, drawing, drawing_call}
use Rattle.qk_gen.specs.declared.pending.Frame.{Frame}
use Rattle.qk_gen.specs.declared.pending.Frame.TheVariants.{Second, Both, Body, Unbind, Items, Parts, Leave}
use Rattle.qk_gen.specs.declared.pending.Control.{Control}
use Rattle.qk_gen.specs.declared.pending.Control.TheVariants.{Draw, Enter, Return, Crash}
use Rattle.qk_value.specs.Data.{Data, list, pair, made, datas_of}
use Rattle.qk_value.specs.Measures.{weight}

-- what is there with the units left, or a crash
abbrev pub given : {R : Type 0} → Result R Cause → ℕ → Evaluated R
given (Ok x) u = result x u
given (Err c) u = crash c

abbrev pub given_as : {R S : Type 0} → (R → S) → Result R Cause → ℕ → Evaluated S
given_as seen (Ok x) u = result (seen x) u
given_as seen (Err c) u = crash c

-- the values that are there, and those of more expressions
abbrev pub all_values : List FunctionData → List Data → ExprsData → List Data → ℕ → Evaluated (List Data)
all_values functions done es env u = and_then (mean_all (calling functions) es env u) (λ xs v. result (done ++ xs) v)

-- what is done with a value, in an environment with units
abbrev pub Next : Type 0
Next = List Data → Data → ℕ → Evaluated Data

-- all but the last
abbrev pub front : List Data → List Data
front env = take (length env - 1) env

-- a list of items that are there and of so many more
abbrev pub listed : Draws Data → ℕ → ℕ → List Data → Draws Data
listed draw n weighed done g u = and_then (elements draw n weighed g u) (λ xs v. or_crash (small (list (datas_of (done ++ xs)))) v)

-- the same with one more item that is there, whose weight is still to be looked at
abbrev pub listed_with : Draws Data → ℕ → ℕ → List Data → Data → Draws Data
listed_with draw n weighed done x g u = if nat_lt 65536 (weighed + weight x) then crash Weight else listed draw n (weighed + weight x) (done ++ x ∷ []) g u

-- what a frame does before what is below it
module _ (functions : List FunctionData) (generators : List UserGenData) where
  -- a made value with parts that are there, and with the rest of them
  abbrev pub made_with : ℕ → ℕ → List Data → GensData → List Data → ℕ → Draws Data
  made_with k m done es env size g u =
      and_then (draws_each functions (drawing_call functions generators) es env size g u) (λ xs v. or_crash (small (made k m (datas_of (done ++ xs)))) v)

  abbrev pub after : Next → Frame → Next
  after next (Second e g size) env x u = and_then (drawing functions generators (view_gen e.now) env size g u) (λ y v. and_then (or_crash (small (pair x y)) v) (next env))
  after next (Both x) env y u = and_then (or_crash (small (pair x y)) u) (next env)
  after next (Body e g size) env x u = and_then (drawing functions generators (view_gen e.now) (env ++ x ∷ []) size g u) (next env)
  after next Unbind env x u = next (front env) x u
  after next (Items e n weighed done g size) env x u = and_then (listed_with (λ h v. drawing functions generators (view_gen e.now) env size h v) n weighed done.items x g u) (next env)
  after next (Parts k m rest done g size) env x u = and_then (made_with k m (done.items ++ x ∷ []) (view_gens rest.now) env size g u) (next env)
  after next (Leave old) env x u = next old.items x u

  -- what all frames do, of which the last is the first to go on
  abbrev pub resume : List Frame → Next
  resume frames = fold after (λ env x u. result x u) frames

  -- what the machine comes to
  abbrev pub outcome : List Frame → List Data → Control → ℕ → Evaluated Data
  outcome frames env (Draw e g size) u = and_then (drawing functions generators (view_gen e.now) env size g u) (resume frames env)
  outcome frames env (Enter f args g size) u = and_then (drawing_call functions generators f args.items size g u) (resume frames env)
  outcome frames env (Return x) u = resume frames env x u
  outcome frames env (Crash c) u = crash c

-- a value to go on with, or a crash
abbrev pub control_of : Result Data Cause → Control
control_of (Ok x) = Return x
control_of (Err c) = Crash c

-- the same where memory was not wanted
abbrev pub settled_of : {E : Type 0} → Result (Result Data Cause) E → Result Control E
settled_of (Ok r) = Ok (control_of r)
settled_of (Err e) = Err e
