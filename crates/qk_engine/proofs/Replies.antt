-- What a reply tells.
use Rattle.std.proofs.Common.{◌≡◌, ℕ, ◌+◌, ◌<◌, ◌∙◌, Bool, true, false, nat_eq, if◌then◌else◌, List, Option, Some, None, length, slice_get, refl, sym, ap, subst, inl, inr}
use Rattle.qk_base.specs.declared.status.Status.{Status}
use Rattle.qk_base.specs.declared.status.Status.TheVariants as status
use Rattle.qk_command.specs.Drawing.{DrawnValues}
use Rattle.qk_core.specs.Program.{ProgramData}
use Rattle.qk_core.specs.Properties.{PropertyData}
use Rattle.qk_property.specs.Settings.{ReportSettings}
use Rattle.qk_report.specs.Token.{TokenData}
use Rattle.qk_words.specs.SettingsData.{SettingsData, AimData, whole, replayed, generated, IsAimInRange}
use Rattle.qk_engine.specs.Generated.{generated_file}
use Rattle.qk_engine.specs.Program.{how_many, is_failed, is_gave_up, status_of}
use Rattle.qk_engine.specs.Reading.{IsLoaded}
use Rattle.qk_engine.specs.Replay.{TokenReply, LeadsToFailure, property_reply, point_reply, point_of}
use Rattle.qk_engine.specs.Settings.{settings_told}
use Rattle.qk_file.specs.Files.{FileReply, IsReply, IsRun}
use Rattle.qk_engine.specs.Reply.{ReportReply, GeneratedReply, program_reply, file_run, ReplyOf, AimNames, AimTells, IsRunnable}
use Rattle.qk_engine.proofs.GeneratedProgram.{generated_program}
use Rattle.qk_file.proofs.FileLaws.{front_says, program_is_answered, run_is_of_program, run_is_reply}

run_or_not : (b : Bool) → IsRun (if b then status.AllPassed else status.SomeFailed)
run_or_not true = inl refl
run_or_not false = inr refl

status_is_run : (s : ReportSettings) (c : ProgramData) → IsRun (status_of s c)
status_is_run s c = run_or_not (nat_eq (how_many is_failed s c + how_many is_gave_up s c) 0)

point_is_reply : (c : ProgramData) (p : PropertyData) (t : TokenData) (point : Option DrawnValues) (s : Status) (text : List ℕ) → point_reply c p t point s text → IsReply s
point_is_reply c p t None s text said = subst IsReply (sym said.0) tt
point_is_reply c p t (Some point) s text said = subst IsReply (sym said.0) tt

property_is_reply : (c : ProgramData) (t : TokenData) (p : Option PropertyData) (s : Status) (text : List ℕ) → property_reply c t p s text → IsReply s
property_is_reply c t None s text said = subst IsReply (sym said.0) tt
property_is_reply c t (Some p) s text said = point_is_reply c p t (point_of c p t) s text said

program_is_reply : (aim : AimData) (r : ReportSettings) (c : ProgramData) (s : Status) (text : List ℕ) → program_reply aim r c s text → IsReply s
program_is_reply (whole name) r c s text said = run_is_reply s (subst IsRun (sym said.0) (status_is_run r c))
program_is_reply (replayed token name) r c s text said = property_is_reply c token (slice_get c.properties token.property) s text said
program_is_reply (generated n) r c s text said = run_is_reply s (subst IsRun (sym said.0) (status_is_run r c))

pub file_is_reply : (aim : AimData) (r : ReportSettings) (bytes : List ℕ) (s : Status) (text : List ℕ) → FileReply (program_reply aim r) bytes s text → IsReply s
file_is_reply aim r bytes s text said = elim said as (λ _. IsReply s) [
  | inl refused ↦ subst IsReply (sym refused.2.0) tt
  | inr program ↦ program_is_reply aim r program.0 s text program.2
]

-- what was loaded is replied to as the whole file
pub loaded_says : (answers : ProgramData → Status → List ℕ → Type 0) (aim : AimData) (bytes loaded : List ℕ) (s : Status) (text : List ℕ) → IsLoaded aim bytes loaded → FileReply answers loaded s text → FileReply answers (file_run aim bytes) s text
loaded_says answers (whole name) bytes loaded s text is_loaded said = front_says answers bytes s text (subst (λ (b : List ℕ). FileReply answers b s text) is_loaded said)
loaded_says answers (replayed token name) bytes loaded s text is_loaded said = front_says answers bytes s text (subst (λ (b : List ℕ). FileReply answers b s text) is_loaded said)
loaded_says answers (generated n) bytes loaded s text is_loaded said = subst (λ (b : List ℕ). FileReply answers b s text) is_loaded said

-- an aim names one file, which is the one that is run
pub named_is_run : (aim : AimData) (file bytes : List ℕ) → AimNames aim file → file_run aim bytes ≡ bytes
named_is_run (whole name) file bytes names = refl
named_is_run (replayed token name) file bytes names = refl
named_is_run (generated n) file bytes names = absurd names

pub names_one : (aim : AimData) (one other : List ℕ) → AimNames aim one → AimNames aim other → one ≡ other
names_one (whole name) one other a b = sym a ∙ b
names_one (replayed token name) one other a b = sym a ∙ b
names_one (generated n) one other a b = absurd a

-- a token that leads to a failure is replayed
failure_is_replayed : (t : TokenData) (c : ProgramData) (s : Status) (text : List ℕ) → LeadsToFailure t c → TokenReply t c s text → IsRun s
failure_is_replayed t c s text (p, point, has, leads) said =
    let of_property : property_reply c t (Some p) s text = subst (λ (o : Option PropertyData). property_reply c t o s text) has said in
    let of_point : point_reply c p t (Some point) s text = subst (λ (o : Option DrawnValues). point_reply c p t o s text) leads of_property in
    inr of_point.0

-- where no refusal applies, the reply tells of a run
pub runnable_is_run : (d : SettingsData) (bytes : List ℕ) (s : Status) (text : List ℕ) → IsAimInRange d.aim → IsRunnable d.aim bytes → ReplyOf d bytes s text → IsRun s
runnable_is_run d bytes s text in_range runnable said =
    of_aim d.aim in_range runnable said
  where
    of_aim : (a : AimData) → IsAimInRange a → IsRunnable a bytes → FileReply (program_reply a (settings_told d)) (file_run a bytes) s text → IsRun s
    of_aim (whole name) within program said =
        let answered = program_is_answered (ReportReply (settings_told d)) bytes s text program.0 program.1 said in
        subst IsRun (sym answered.0) (status_is_run (settings_told d) program.0)
    of_aim (replayed token name) within program said = failure_is_replayed token program.0 s text program.2 (program_is_answered (TokenReply token) bytes s text program.0 program.1 said)
    of_aim (generated n) within runs said =
        let program = generated_program n within.0 within.1 in
        let answered = program_is_answered (GeneratedReply (settings_told d) n) (generated_file n) s text program.0 program.1 said in
        subst IsRun (sym answered.0) (status_is_run (settings_told d) program.0)

-- an aim names its own file
pub whole_names : (aim : AimData) (file : List ℕ) → aim ≡ whole file → AimNames aim file
whole_names aim file e = subst (λ (a : AimData). AimNames a file) (sym e) refl

pub replayed_names : (aim : AimData) (token : TokenData) (file : List ℕ) → aim ≡ replayed token file → AimNames aim file
replayed_names aim token file e = subst (λ (a : AimData). AimNames a file) (sym e) refl

-- what is told of one file of an aim is told of all that it names
pub tells_all : (holds : List ℕ → Option (List ℕ)) (aim : AimData) (file bytes : List ℕ) → AimNames aim file → holds file ≡ Some bytes → AimTells holds aim bytes
tells_all holds aim file bytes names held = λ other named. ap holds (names_one aim other file named names) ∙ held

-- a run of the file that is named was of a short file
pub run_is_short : (answers : ProgramData → Status → List ℕ → Type 0) (aim : AimData) (file bytes loaded : List ℕ) (s : Status) (text : List ℕ)
    → IsRun s → AimNames aim file → IsLoaded aim bytes loaded → FileReply answers loaded s text → length bytes < 1048577
run_is_short answers aim file bytes loaded s text run names is_loaded said =
    run_is_of_program answers bytes s text run (subst (λ (b : List ℕ). FileReply answers b s text) (named_is_run aim file bytes names) (loaded_says answers aim bytes loaded s text is_loaded said))
