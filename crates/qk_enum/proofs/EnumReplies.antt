-- Words and bytes have one reply, and a reply tells what it should.
use Rattle.std.proofs.Common.{◌≡◌, ◌∙◌, ℕ, ◌<◌, Bool, true, false, nat_eq, if◌then◌else◌, List, length, take, refl, sym, subst, inl, inr}
use Rattle.qk_base.specs.declared.status.Status.{Status}
use Rattle.qk_base.specs.declared.status.Status.TheVariants as status
use Rattle.qk_core.specs.Program.{ProgramData}
use Rattle.qk_enum.specs.Laws.{OneReply, SomeReply}
use Rattle.qk_enum.specs.Reply.{Replies, ReplyOf, ReportReply, reach_told, usage}
use Rattle.qk_enum_report.specs.Reach.{Reach}
use Rattle.qk_enum_report.specs.Report.{failures, report_of, status_of}
use Rattle.qk_enum_words.specs.SettingsData.{SettingsData}
use Rattle.qk_enum_words.specs.Walk.{is_good, nothing}
use Rattle.qk_enum_words.proofs.OneAnswer.{one_settings, some_settings}
use Rattle.qk_enum_words.proofs.WalkLaws.{accepted_is_good, good_is_accepted}
use Rattle.qk_file.specs.Files.{IsProgram, IsReply, IsRun}
use Rattle.qk_file.proofs.FileLaws.{IsOne, Some_of, front_says, one_file, program_is_answered, run_is_of_program, run_is_reply, some_of_file}

run_or_not : (b : Bool) → IsRun (if b then status.AllPassed else status.SomeFailed)
run_or_not true = inl refl
run_or_not false = inr refl

status_is_run : (r : Reach) (c : ProgramData) → IsRun (status_of r c)
status_is_run r c = run_or_not (nat_eq (failures r c c.properties) 0)

report_is_run : (r : Reach) (c : ProgramData) (s : Status) (text : List ℕ) → ReportReply r c s text → IsRun s
report_is_run r c s text said = subst IsRun (sym said.0) (status_is_run r c)

pub file_is_reply : (d : SettingsData) (bytes : List ℕ) (s : Status) (text : List ℕ) → ReplyOf d bytes s text → IsReply s
file_is_reply d bytes s text said = elim said as (λ _. IsReply s) [
  | inl refused ↦ subst IsReply (sym refused.2.0) tt
  | inr program ↦ run_is_reply s (report_is_run (reach_told d) program.0 s text program.2)
]

-- what was loaded is replied to as the whole file
pub loaded_says : (d : SettingsData) (bytes loaded : List ℕ) (s : Status) (text : List ℕ) → loaded ≡ take 1048577 bytes → ReplyOf d loaded s text → ReplyOf d bytes s text
loaded_says d bytes loaded s text is said = front_says (ReportReply (reach_told d)) bytes s text (subst (λ (b : List ℕ). ReplyOf d b s text) is said)

-- a run was of a short file
pub run_is_short : (d : SettingsData) (bytes loaded : List ℕ) (s : Status) (text : List ℕ) → IsRun s → loaded ≡ take 1048577 bytes → ReplyOf d loaded s text → length bytes < 1048577
run_is_short d bytes loaded s text run is said = run_is_of_program (ReportReply (reach_told d)) bytes s text run (loaded_says d bytes loaded s text is said)

-- the reply to a program tells of a run
pub program_is_run : (d : SettingsData) (bytes : List ℕ) (s : Status) (text : List ℕ) → ((c : ProgramData) × IsProgram bytes c) → ReplyOf d bytes s text → IsRun s
program_is_run d bytes s text program said =
    report_is_run (reach_told d) program.0 s text (program_is_answered (ReportReply (reach_told d)) bytes s text program.0 program.1 said)

one_report : (r : Reach) (c : ProgramData) → IsOne (ReportReply r c)
one_report r c s text t other (e, is) (f, js) = (e ∙ sym f, is ∙ sym js)

one_to_settings : (d : SettingsData) (bytes : List ℕ) → IsOne (ReplyOf d bytes)
one_to_settings d bytes = one_file (ReportReply (reach_told d)) bytes (λ c. one_report (reach_told d) c)

pub one_reply : OneReply
one_reply words bytes s text t other (inl (never, e, is)) (inl (_, f, js)) = (e ∙ sym f, is ∙ sym js)
one_reply words bytes s text t other (inl (never, e, is)) (inr (d, are, b)) = absurd (never (are.0, are.1.0))
one_reply words bytes s text t other (inr (d, are, a)) (inl (never, f, js)) = absurd (never (are.0, are.1.0))
one_reply words bytes s text t other (inr (d, are, a)) (inr (e, be, b)) =
    one_to_settings e bytes s text t other (subst (λ (x : SettingsData). ReplyOf x bytes s text) (one_settings words d e are be) a) b

some_to_settings : (d : SettingsData) (bytes : List ℕ) → Some_of (ReplyOf d bytes)
some_to_settings d bytes = some_of_file (ReportReply (reach_told d)) bytes (λ c. (status_of (reach_told d) c, report_of (reach_told d) c, (refl, refl)))

some_by : (words : List (List ℕ)) (bytes : List ℕ) (b : Bool) → is_good words nothing ≡ b → Some_of (Replies words bytes)
some_by words bytes true e =
    let d = some_settings words (good_is_accepted words e) in
    let said = some_to_settings d.0 bytes in
    (said.0, said.1, inr (d.0, d.1, said.2))
some_by words bytes false e = (status.Usage, usage, inl (λ accepted. let both = sym e ∙ accepted_is_good words accepted in cc, refl, refl))

pub some_reply : SomeReply
some_reply words bytes = some_by words bytes (is_good words nothing) refl
