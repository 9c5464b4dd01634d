-- The due slots of a fold, with their places.
use Rattle.std.specs.Prelude.{ℕ, ◌+◌, ◌≤◌, List, [], ◌∷◌, All, if◌then◌else◌}
use Rattle.qk_base.specs.Judged.{Judged}
use Rattle.qk_rounds.specs.declared.due.Due.{Due}
use Rattle.qk_rounds.specs.declared.folded.Folded.{Folded}
use Rattle.qk_rounds.specs.Trial.{Range, Includes}

-- the due slots in order; the first slot has the place i
abbrev pub due_at : ℕ → List Folded → List Due
due_at i [] = []
due_at i (f ∷ fs) = (if f.due then record { index = i; size = f.size } ∷ due_at (i + 1) fs else due_at (i + 1) fs)

-- the outcome of a due slot; slot 0 is that of attempt n
abbrev pub due_outcome : (ℕ → ℕ → Judged) → ℕ → Due → Judged
due_outcome outcome n due = outcome (n + due.index) due.size

-- the attempts of the due slots may be performed
abbrev pub Ready : Range → ℕ → List Due → Type 0
Ready prepared n due = All (λ d. Includes prepared (n + d.index) × (d.size ≤ 1000)) due
