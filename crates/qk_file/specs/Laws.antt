-- What holds of all property files.
use Rattle.std.specs.Prelude.{◌≡◌, ◌⊎◌, ℕ, List}
use Rattle.qk_base.specs.declared.place.Refusal.{Refusal}
use Rattle.qk_core.specs.Program.{ProgramData}
use Rattle.qk_file.specs.Files.{IsFault, IsProgram}

-- a file is of a program, or has a fault
abbrev pub ProgramOrFault : Type 0
ProgramOrFault = (bytes : List ℕ) → ((c : ProgramData) × IsProgram bytes c) ⊎ ((r : Refusal) × IsFault bytes r)

-- .. never both
abbrev pub NeverBoth : Type 0
NeverBoth = (bytes : List ℕ) (c : ProgramData) (r : Refusal) → IsProgram bytes c → IsFault bytes r → ⊥

abbrev pub OneProgram : Type 0
OneProgram = (bytes : List ℕ) (c d : ProgramData) → IsProgram bytes c → IsProgram bytes d → c ≡ d

abbrev pub OneFault : Type 0
OneFault = (bytes : List ℕ) (r q : Refusal) → IsFault bytes r → IsFault bytes q → r ≡ q
