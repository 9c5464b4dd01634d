-- What reading a file tells.
use Rattle.std.specs.Prelude.{◌≡◌, ℕ, List, Some, Result, Ok, Err}
use Rattle.qk_base.specs.declared.place.Refusal.{Refusal}
use Rattle.qk_core.specs.Program.{ProgramData}
use Rattle.qk_syntax.specs.PlainTrees.{PlainTrees}
use Rattle.qk_types.specs.Elaboration.{type_fault}
use Rattle.qk_wellformed.specs.StandsFor.{StandsFor}
use Rattle.qk_file.specs.Files.{IsFault, IsProgram}

-- the program that trees stand for, or their first fault
abbrev pub IsChecked : PlainTrees → Result ProgramData Refusal → Type 0
IsChecked trees (Ok c) = StandsFor trees c
IsChecked trees (Err r) = type_fault trees ≡ Some r

-- a program of the bytes, or their first fault
abbrev pub IsRead : List ℕ → Result ProgramData Refusal → Type 0
IsRead bytes (Ok c) = IsProgram bytes c
IsRead bytes (Err r) = IsFault bytes r
