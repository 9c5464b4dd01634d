-- What a property file is: a program, or bytes with a first fault; and the answers to it.
use Rattle.std.specs.Prelude.{◌≡◌, ◌⊎◌, ℕ, List, ◌++◌, Some, codes, ⊤}
use Rattle.qk_base.specs.declared.place.Refusal.{Refusal}
use Rattle.qk_base.specs.declared.status.Status.{Status}
use Rattle.qk_base.specs.declared.status.Status.TheVariants as status
use Rattle.qk_core.specs.Program.{ProgramData}
use Rattle.qk_report.specs.Lines.{line, named}
use Rattle.qk_syntax.specs.PlainTrees.{PlainTrees}
use Rattle.qk_syntax.specs.Spelling.{Spells}
use Rattle.qk_syntax.specs.TextFault.{text_fault}
use Rattle.qk_types.specs.Elaboration.{type_fault}
use Rattle.qk_wellformed.specs.StandsFor.{StandsFor}

-- the refusal of a file: a code and a place
abbrev pub refusal : Refusal → List ℕ
refusal r = line (named (codes "refused ") r.code ++ named (codes " at ") r.place.line ++ named (codes ":") r.place.column)

-- the first fault of a file: that of its text, or the first check that does not hold of its trees
abbrev pub IsFault : List ℕ → Refusal → Type 0
IsFault bytes r = (text_fault bytes ≡ Some r) ⊎ ((trees : PlainTrees) × Spells bytes trees × (type_fault trees ≡ Some r))

-- the program of a file: its bytes spell trees that stand for it
abbrev pub IsProgram : List ℕ → ProgramData → Type 0
IsProgram bytes c = (trees : PlainTrees) × Spells bytes trees × StandsFor trees c

abbrev pub Refuses : Refusal → Status → List ℕ → Type 0
Refuses r s text = (s ≡ status.Refused) × (text ≡ refusal r)

-- the answers to a file: the refusal of its fault, or those to its program
abbrev pub FileReply : (ProgramData → Status → List ℕ → Type 0) → List ℕ → Status → List ℕ → Type 0
FileReply answers bytes s text = ((r : Refusal) × IsFault bytes r × Refuses r s text) ⊎ ((c : ProgramData) × IsProgram bytes c × answers c s text)

-- the answers with a text
abbrev pub IsReply : Status → Type 0
IsReply status.AllPassed = ⊤
IsReply status.SomeFailed = ⊤
IsReply status.Usage = ⊤
IsReply status.Refused = ⊤
IsReply status.ReadFault = ⊥
IsReply status.WriteFault = ⊥
IsReply status.Memory = ⊥

-- the answers that tell that every property was run, or that a failure was replayed
abbrev pub IsRun : Status → Type 0
IsRun s = (s ≡ status.AllPassed) ⊎ (s ≡ status.SomeFailed)
