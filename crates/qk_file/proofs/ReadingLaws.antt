-- What reading tells.
use Rattle.std.proofs.Common.{List, ℕ, Result, Ok, Err, inr}
use Rattle.qk_base.specs.declared.place.Refusal.{Refusal}
use Rattle.qk_core.specs.Program.{ProgramData}
use Rattle.qk_syntax.specs.PlainTrees.{PlainTrees}
use Rattle.qk_syntax.specs.Spelling.{Spells}
use Rattle.qk_file.specs.Reading.{IsChecked, IsRead}

pub read_is : (bytes : List ℕ) (trees : PlainTrees) (made : Result ProgramData Refusal) → Spells bytes trees → IsChecked trees made → IsRead bytes made
read_is bytes trees (Ok c) spells checked = (trees, spells, checked)
read_is bytes trees (Err r) spells checked = inr (trees, spells, checked)
