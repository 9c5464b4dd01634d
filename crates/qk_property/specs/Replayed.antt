-- An attempt that is drawn again, and the steps from its values on.
use Rattle.std.specs.Prelude.{ℕ, Bool, true, false, ◌&&◌, nat_lt, List, [], ◌∷◌, length, Option, Some, None, if◌then◌else◌}
use Rattle.qk_command.specs.Drawing.{DrawnValues}
use Rattle.qk_core.specs.Program.{ProgramData}
use Rattle.qk_core.specs.Properties.{PropertyData}
use Rattle.qk_path.specs.Points.{nth}
use Rattle.qk_property.specs.Attempts.{drawn_at}
use Rattle.qk_property.specs.Points.{children_at, fails_at}

-- the candidate of that number, where there is one and it fails
abbrev pub step_to : {P : Type 0} → (P → List P) → (P → Bool) → P → ℕ → Option P
step_to children failing p n = if nat_lt n (length (children p)) && failing (nth p (children p) n) then Some (nth p (children p) n) else None

-- the point that the steps lead to; none where a step is no candidate or does not fail
abbrev pub followed : {P : Type 0} → (P → List P) → (P → Bool) → P → List ℕ → Option P
followed children failing p [] = Some p
followed children failing p (n ∷ ns) = elim (step_to children failing p n) [ None ↦ None | Some q ↦ followed children failing q ns ]

-- the steps from a point that fails; none where it does not
abbrev pub replayed_from : ProgramData → PropertyData → ℕ → DrawnValues → List ℕ → Option DrawnValues
replayed_from c p fuel point path = if fails_at c p fuel point then followed (children_at c p fuel) (fails_at c p fuel) point path else None

-- the steps from what an attempt draws at a size
abbrev pub replayed : ProgramData → PropertyData → ℕ → ℕ → ℕ → ℕ → List ℕ → Option DrawnValues
replayed c p seed fuel k size path = replayed_from c p fuel (drawn_at c p seed fuel k size) path
