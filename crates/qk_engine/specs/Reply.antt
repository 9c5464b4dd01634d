-- What a run answers: a status and a text for the words and the bytes of their file.
use Rattle.std.specs.Prelude.{◌≡◌, ◌⊎◌, ℕ, List, Option, Some, codes, ⊤}
use Rattle.qk_base.specs.declared.status.Status.{Status}
use Rattle.qk_base.specs.declared.status.Status.TheVariants as status
use Rattle.qk_core.specs.Program.{ProgramData}
use Rattle.qk_file.specs.Files.{FileReply, IsProgram}
use Rattle.qk_property.specs.Settings.{ReportSettings}
use Rattle.qk_report.specs.Lines.{line}
use Rattle.qk_words.specs.Accepted.{IsAccepted}
use Rattle.qk_words.specs.Given.{AreSettings, HasBadToken}
use Rattle.qk_words.specs.SettingsData.{SettingsData, AimData, whole, replayed, generated}
use Rattle.qk_engine.specs.Generated.{generated_file, generated_text}
use Rattle.qk_engine.specs.Program.{IsReport, status_of}
use Rattle.qk_engine.specs.Replay.{TokenReply, LeadsToFailure, bad_token}
use Rattle.qk_engine.specs.Settings.{settings_told}

-- words that are not accepted give the usage line
abbrev pub usage : List ℕ
usage = line (codes "usage: quicker [options] FILE")

abbrev pub ReportReply : ReportSettings → ProgramData → Status → List ℕ → Type 0
ReportReply s c status text = (status ≡ status_of s c) × IsReport s c text

abbrev pub GeneratedReply : ReportSettings → ℕ → ProgramData → Status → List ℕ → Type 0
GeneratedReply s n c status text = (status ≡ status_of s c) × (text ≡ generated_text s n c)

-- the answers to a program, by what the call is aimed at
abbrev pub program_reply : AimData → ReportSettings → ProgramData → Status → List ℕ → Type 0
program_reply (whole name) s = ReportReply s
program_reply (replayed token name) s = TokenReply token
program_reply (generated n) s = GeneratedReply s n

-- the file that is run, where the file that is named, if any, has those bytes
abbrev pub file_run : AimData → List ℕ → List ℕ
file_run (whole name) bytes = bytes
file_run (replayed token name) bytes = bytes
file_run (generated n) bytes = generated_file n

-- the answers for settings and the bytes of the file that they name, if they name one
abbrev pub ReplyOf : SettingsData → List ℕ → Status → List ℕ → Type 0
ReplyOf d bytes status text = FileReply (program_reply d.aim (settings_told d)) (file_run d.aim bytes) status text

-- the status and the text are those of the words and the bytes of the file that they name, if they name one
abbrev pub Replies : List (List ℕ) → List ℕ → Status → List ℕ → Type 0
Replies words bytes s text =
    ((IsAccepted words → ⊥) × (s ≡ status.Usage) × (text ≡ usage))
    ⊎ ((HasBadToken words × (s ≡ status.Usage) × (text ≡ bad_token)) ⊎ ((d : SettingsData) × AreSettings words d × ReplyOf d bytes s text))

-- the aim names that file
abbrev pub AimNames : AimData → List ℕ → Type 0
AimNames (whole name) file = name ≡ file
AimNames (replayed token name) file = name ≡ file
AimNames (generated n) file = ⊥

-- these are the bytes of the file that the aim names, if it names one
abbrev pub AimTells : (List ℕ → Option (List ℕ)) → AimData → List ℕ → Type 0
AimTells holds aim bytes = (file : List ℕ) → AimNames aim file → holds file ≡ Some bytes

-- the words name that file
abbrev pub Names : List (List ℕ) → List ℕ → Type 0
Names words file = (d : SettingsData) × AreSettings words d × AimNames d.aim file

-- these are the bytes of the file that the words name, if they name one
abbrev pub Tells : (List ℕ → Option (List ℕ)) → List (List ℕ) → List ℕ → Type 0
Tells holds words bytes = (file : List ℕ) → Names words file → holds file ≡ Some bytes

-- no refusal applies where the file that is named, if any, has those bytes: they are those of a program, and a token leads to a failure in it
abbrev pub IsRunnable : AimData → List ℕ → Type 0
IsRunnable (whole name) bytes = (c : ProgramData) × IsProgram bytes c
IsRunnable (replayed token name) bytes = (c : ProgramData) × IsProgram bytes c × LeadsToFailure token c
IsRunnable (generated n) bytes = ⊤

-- the words are accepted, and no refusal applies
abbrev pub MayRun : List (List ℕ) → List ℕ → Type 0
MayRun words bytes = (d : SettingsData) × AreSettings words d × IsRunnable d.aim bytes
