-- Lists of commands: which keep their preconditions, and which a system runs as its model says.
use Rattle.std.specs.Prelude.{ℕ, ◌+◌, List, [], ◌∷◌, if◌then◌else◌}
use Rattle.qk_base.specs.declared.outcome.Cause.{Cause}
use Rattle.qk_base.specs.declared.outcome.Cause.TheVariants.{Post}
use Rattle.qk_core.specs.Definitions.{FunctionData, ModelData}
use Rattle.qk_value.specs.Data.{Data, Datas, end, more}
use Rattle.qk_eval.specs.Meaning.{Evaluated, result, crash, meaning, called}
use Rattle.qk_eval.specs.Parts.{truth_of, items_of}

-- all commands keep their preconditions, or the first that does not is this one
pub data Kept : Type 0 where
  keeps_all : (left : ℕ) → Kept
  first_broken : (step : ℕ) → Kept
  keeping_crashed : (cause : Cause) → Kept

abbrev pub kept_with : Evaluated Data → (Data → ℕ → Kept) → Kept
kept_with (result x u) go = go x u
kept_with (crash c) go = keeping_crashed c

-- the commands from this one on, in an abstract state; the next state is found after the last command too
abbrev pub kept_from : List FunctionData → ModelData → ℕ → Data → Datas → ℕ → Kept
kept_from functions m step s end u = keeps_all u
kept_from functions m step s (more c cs) u =
    kept_with (called functions m.pre (s ∷ c ∷ []) u) (λ x v.
    if truth_of x then kept_with (called functions m.next (s ∷ c ∷ []) v) (λ s w. kept_from functions m (step + 1) s cs w) else first_broken step)

-- a list of commands from the model's first state
abbrev pub kept : List FunctionData → ModelData → Data → ℕ → Kept
kept functions m commands u = kept_with (meaning functions m.init [] u) (λ s v. kept_from functions m 0 s (items_of commands) v)

-- the run holds, or it broke at this command
pub data Ran : Type 0 where
  held : (left : ℕ) → Ran
  broke : (step : ℕ) (cause : Cause) → Ran

abbrev pub ran_with : ℕ → Evaluated Data → (Data → ℕ → Ran) → Ran
ran_with step (result x u) go = go x u
ran_with step (crash c) go = broke step c

-- the commands from this one on, in an abstract state and a state of the system: both go on, then the postcondition is asked of the new states
abbrev pub ran_from : List FunctionData → ModelData → ℕ → Data → Data → Datas → ℕ → Ran
ran_from functions m step s r end u = held u
ran_from functions m step s r (more c cs) u =
    ran_with step (called functions m.next (s ∷ c ∷ []) u) (λ s v.
    ran_with step (called functions m.step (r ∷ c ∷ []) v) (λ r w.
    ran_with step (called functions m.post (s ∷ c ∷ r ∷ []) w) (λ x u. if truth_of x then ran_from functions m (step + 1) s r cs u else broke step Post)))

-- a list of commands from both first states
abbrev pub ran : List FunctionData → ModelData → Data → ℕ → Ran
ran functions m commands u =
    ran_with 0 (meaning functions m.init [] u) (λ s v. ran_with 0 (meaning functions m.start [] v) (λ r w. ran_from functions m 0 s r (items_of commands) w))
