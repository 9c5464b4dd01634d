-- What follows a turn of drawing commands, and the data that drawn values stand for.
use Rattle.std.specs.Prelude.{ℕ, List, [], ◌∷◌, ◌++◌, map, if◌then◌else◌}
use Rattle.qk_core.specs.Definitions.{ModelData}
use Rattle.qk_core.specs.Program.{ProgramData}
use Rattle.qk_eval.specs.Meaning.{Evaluated, crash, and_then, or_crash, called}
use Rattle.qk_eval.specs.Parts.{truth_of, small}
use Rattle.qk_splitmix.specs.SplitMix.{Generator}
use Rattle.qk_value.specs.Data.{Data, list, datas_of}
use Rattle.qk_command.specs.Drawing.{DrawnValues, turns}
use Rattle.qk_value.specs.View.{view_value}
use Rattle.qk_command.specs.declared.drawing.Drawn.{Drawn}
use Rattle.qk_command.specs.declared.drawing.DrawnAll.{DrawnAll}
use Rattle.qk_command.specs.declared.turning.Turned.{Turned}
use Rattle.qk_command.specs.declared.turning.Turned.TheVariants as turned

-- so many more turns after one that came to this, with these commands so far
abbrev pub turned_then : ProgramData → ModelData → ℕ → ℕ → Generator → List Data → Turned → Evaluated Data
turned_then c m size n g before (turned.On s u) = turns c m size n before s g u
turned_then c m size n g before (turned.Crash cause) = crash cause

-- a command is added, and the next state found
abbrev pub added : ProgramData → ModelData → ℕ → ℕ → List Data → Data → Data → Generator → ℕ → Evaluated Data
added c m size n before s x g u =
    and_then (or_crash (small (list (datas_of (before ++ x ∷ [])))) u) (λ _ w.
    and_then (called c.functions m.next (s ∷ x ∷ []) w) (λ t u. turns c m size n (before ++ x ∷ []) t g u))

-- a command that was drawn: its precondition is asked, and where it is true the command is added
abbrev pub asked : ProgramData → ModelData → ℕ → ℕ → List Data → Data → Data → Generator → ℕ → Evaluated Data
asked c m size n before s x g u =
    and_then (called c.functions m.pre (s ∷ x ∷ []) u) (λ y w. if truth_of y then added c m size n before s x g w else turns c m size n before s g w)

-- the values that were drawn, as plain data
abbrev pub drawn_in : Drawn → DrawnValues
drawn_in d = record { values = d.values.items; crash = d.crash }

abbrev pub all_drawn_in : DrawnAll → DrawnValues
all_drawn_in d = record { values = map view_value d.values.items; crash = d.crash }
