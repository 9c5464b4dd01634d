-- What the values of a property's binders come to: preconditions of commands, givens, the check and the marks, in this order, through which the units of fuel run.
use Rattle.std.specs.Prelude.{ℕ, List, [], ◌∷◌, Option, Some, None, slice_get, unwrap_or}
use Rattle.qk_base.specs.declared.outcome.Cause.TheVariants.{False}
use Rattle.qk_base.specs.declared.outcome.Verdict.TheVariants.{Pass, Discard, Fail}
use Rattle.qk_base.specs.Judged.{Judged, Marked}
use Rattle.qk_core.specs.Definitions.{FunctionData, ModelData}
use Rattle.qk_core.specs.ExprData.{ExprData}
use Rattle.qk_core.specs.Program.{ProgramData}
use Rattle.qk_core.specs.Properties.{DrawData, plain, commands, CheckData, expression, runs, BinderData, PropertyData}
use Rattle.qk_value.specs.Data.{Data, list, end}
use Rattle.qk_eval.specs.Meaning.{meaning}
use Rattle.qk_command.specs.CommandLists.{Kept, keeps_all, first_broken, keeping_crashed, kept, Ran, held, broke, ran}
use Rattle.qk_command.specs.Marking.{Note, notes_of, marked}
use Rattle.qk_command.specs.Steps.{Judging, goes_on, discards, fails, then, with_value, where_true}

-- a list of commands that breaks a precondition is discarded
abbrev pub keeping : Kept → Judging (Unit {0})
keeping (keeps_all u) = goes_on tt u
keeping (first_broken step) = discards
keeping (keeping_crashed c) = fails c

abbrev pub keeping_commands : List FunctionData → Option ModelData → Data → ℕ → Judging (Unit {0})
keeping_commands functions None x u = goes_on tt u
keeping_commands functions (Some m) x u = keeping (kept functions m x u)

-- the value of one binder keeps its preconditions, where it is a list of commands
abbrev pub keeps : ProgramData → DrawData → Data → ℕ → Judging (Unit {0})
keeps c (plain g) x u = goes_on tt u
keeps c (commands m) x u = keeping_commands c.functions (slice_get c.models m) x u

abbrev pub all_keep : ProgramData → List BinderData → List Data → ℕ → Judging (Unit {0})
all_keep c (b ∷ bs) (x ∷ xs) u = then (keeps c b.draw x u) (λ _ v. all_keep c bs xs v)
all_keep c bs xs u = goes_on tt u

-- an attempt for which a given is false is discarded
abbrev pub givens_hold : List FunctionData → List ExprData → List Data → ℕ → Judging (Unit {0})
givens_hold functions [] env u = goes_on tt u
givens_hold functions (e ∷ es) env u = with_value (meaning functions e env u) (λ x v. where_true x (givens_hold functions es env v) discards)

abbrev pub running : Ran → Judging (Unit {0})
running (held u) = goes_on tt u
running (broke step c) = fails c

-- the model of the binder of that index, whose value the commands are
abbrev pub model_of : ProgramData → List BinderData → ℕ → Option ModelData
model_of c binders i = elim (slice_get binders i) [ None ↦ None | Some b ↦ elim b.draw [ plain g ↦ None | commands m ↦ slice_get c.models m ] ]

abbrev pub running_commands : List FunctionData → Option ModelData → Data → ℕ → Judging (Unit {0})
running_commands functions None x u = goes_on tt u
running_commands functions (Some m) x u = running (ran functions m x u)

abbrev pub check_holds : ProgramData → List BinderData → CheckData → List Data → ℕ → Judging (Unit {0})
check_holds c binders (expression e) env u = with_value (meaning c.functions e env u) (λ x v. where_true x (goes_on tt v) (fails False))
check_holds c binders (runs i) env u = running_commands c.functions (model_of c binders i) (unwrap_or (slice_get env i) (list end)) u

-- the steps before the marks
abbrev pub holds : ProgramData → PropertyData → List Data → ℕ → Judging (Unit {0})
holds c p values u =
    then (all_keep c p.binders values u) (λ _ u.
    then (givens_hold c.functions p.givens values u) (λ _ u. check_holds c p.binders p.check values u))

-- all steps, up to what the marks say
abbrev pub judging : ProgramData → PropertyData → List Data → ℕ → Judging (List Note)
judging c p values u = then (holds c p values u) (λ _ u. with_value (notes_of c.functions c.kinds p.marks values u) goes_on)

abbrev pub no_marks : Marked
no_marks = record { label = []; classes = []; entries = []; covers = [] }

abbrev pub verdict_on : Judging (List Note) → Judged
verdict_on (goes_on notes u) = record { verdict = Pass; marks = marked notes }
verdict_on discards = record { verdict = Discard; marks = no_marks }
verdict_on (fails c) = record { verdict = Fail c; marks = no_marks }

-- the outcome of values, one for each binder
abbrev pub judged : ProgramData → PropertyData → List Data → ℕ → Judged
judged c p values u = verdict_on (judging c p values u)
