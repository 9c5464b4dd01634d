-- Answers put into their slots.
use Rattle.std.specs.Prelude.{Some, List, [], ◌∷◌, slice_set}
use Rattle.qk_base.specs.Judged.{Judged}
use Rattle.qk_rounds.specs.declared.due.Due.{Due}
use Rattle.qk_rounds.specs.Windows.{Slot}

-- the slots at the places of the first due slots know the answers
abbrev pub placed : List Due → List Judged → List Slot → List Slot
placed [] answers slots = slots
placed (due ∷ more) [] slots = slots
placed (due ∷ more) (answer ∷ answers) slots = slice_set (placed more answers slots) due.index (Some (record { size = due.size; outcome = answer }))
