-- What an exhaustive run answers: a status and a text for the words and the bytes of their file.
use Rattle.std.specs.Prelude.{◌≡◌, ◌⊎◌, ℕ, List, Option, Some, codes}
use Rattle.qk_base.specs.declared.status.Status.{Status}
use Rattle.qk_base.specs.declared.status.Status.TheVariants as status
use Rattle.qk_core.specs.Program.{ProgramData}
use Rattle.qk_enum_report.specs.Reach.{Reach}
use Rattle.qk_enum_report.specs.Report.{report_of, status_of}
use Rattle.qk_enum_words.specs.Accepted.{IsAccepted}
use Rattle.qk_enum_words.specs.Given.{AreSettings}
use Rattle.qk_enum_words.specs.SettingsData.{SettingsData}
use Rattle.qk_file.specs.Files.{FileReply, IsProgram}
use Rattle.qk_report.specs.Lines.{line}

-- words that are not accepted give the usage line
abbrev pub usage : List ℕ
usage = line (codes "usage: quicker_enum [options] FILE")

-- what the report depends on, of the settings that words give
abbrev pub reach_told : SettingsData → Reach
reach_told d = record { depth = d.depth; cases = d.cases; fuel = d.fuel }

-- the answer to a program: the blocks of its properties and the last line, and whether some property fails
abbrev pub ReportReply : Reach → ProgramData → Status → List ℕ → Type 0
ReportReply r c s text = (s ≡ status_of r c) × (text ≡ report_of r c)

-- the answers for settings and the bytes of the file that they name
abbrev pub ReplyOf : SettingsData → List ℕ → Status → List ℕ → Type 0
ReplyOf d bytes s text = FileReply (ReportReply (reach_told d)) bytes s text

-- the status and the text are those of the words and the bytes of the file that they name, if they name one
abbrev pub Replies : List (List ℕ) → List ℕ → Status → List ℕ → Type 0
Replies words bytes s text =
    ((IsAccepted words → ⊥) × (s ≡ status.Usage) × (text ≡ usage)) ⊎ ((d : SettingsData) × AreSettings words d × ReplyOf d bytes s text)

-- the words name that file
abbrev pub Names : List (List ℕ) → List ℕ → Type 0
Names words file = (d : SettingsData) × AreSettings words d × (d.file ≡ file)

-- these are the bytes of the file that the words name, if they name one
abbrev pub Tells : (List ℕ → Option (List ℕ)) → List (List ℕ) → List ℕ → Type 0
Tells holds words bytes = (file : List ℕ) → Names words file → holds file ≡ Some bytes

-- the words are accepted, and no refusal applies where their file has those bytes
abbrev pub MayRun : List (List ℕ) → List ℕ → Type 0
MayRun words bytes = IsAccepted words × ((c : ProgramData) × IsProgram bytes c)
