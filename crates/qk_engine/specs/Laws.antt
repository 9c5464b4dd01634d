-- What settings do not decide.
use Rattle.std.specs.Prelude.{◌≡◌, ◌↔◌, ℕ, Bool, true, false, List}
use Rattle.qk_base.specs.declared.status.Status.{Status}
use Rattle.qk_words.specs.Given.{AreSettings}
use Rattle.qk_words.specs.SettingsData.{SettingsData, whole}
use Rattle.qk_core.specs.Program.{ProgramData}
use Rattle.qk_engine.specs.Agreeing.{AreShrunkOtherwise, TellOtherWork, AgreeOn}
use Rattle.qk_engine.specs.Reply.{Replies, ReplyOf, file_run}
use Rattle.qk_engine.specs.Settings.{with_workers, with_window, with_greedy}

-- settings that differ in the number of workers have the same replies
abbrev pub WorkersDecideNothing : Type 0
WorkersDecideNothing = (d : SettingsData) (n : ℕ) (bytes : List ℕ) (s : Status) (text : List ℕ) → ReplyOf (with_workers n d) bytes s text ↔ ReplyOf d bytes s text

-- settings without `--work` that differ in the window have the same replies
abbrev pub WindowDecidesWorkLines : Type 0
WindowDecidesWorkLines = (d : SettingsData) (n : ℕ) (bytes : List ℕ) (s : Status) (text : List ℕ) → d.work ≡ false → ReplyOf (with_window n d) bytes s text ↔ ReplyOf d bytes s text

-- each reply with another window has one with this window that differs only in its lines on work
abbrev pub WindowDecidesOnlyWorkLines : Type 0
WindowDecidesOnlyWorkLines =
    (d : SettingsData) (n : ℕ) (bytes : List ℕ) (s : Status) (text : List ℕ) → ReplyOf (with_window n d) bytes s text
    → (other : List ℕ) × ReplyOf d bytes s other × AgreeOn (λ c. TellOtherWork) (file_run d.aim bytes) text other

-- a reply with greedy shrinking and one without have one status, and their texts differ only in what failures are shrunk to
abbrev pub GreedyDecidesOnlyShrinks : Type 0
GreedyDecidesOnlyShrinks =
    (d : SettingsData) (bytes : List ℕ) (s : Status) (text : List ℕ) (t : Status) (other : List ℕ)
    → ReplyOf (with_greedy true d) bytes s text → ReplyOf (with_greedy false d) bytes t other
    → (s ≡ t) × AgreeOn (λ c. AreShrunkOtherwise c.kinds) (file_run d.aim bytes) text other

-- greedy shrinking decides nothing where no whole file is run
abbrev pub GreedyIsForFiles : Type 0
GreedyIsForFiles =
    (d : SettingsData) (b : Bool) (bytes : List ℕ) (s : Status) (text : List ℕ) → ((file : List ℕ) → d.aim ≡ whole file → ⊥)
    → ReplyOf (with_greedy b d) bytes s text ↔ ReplyOf d bytes s text

-- no shrink of these settings is greedy: they want no report, or one without `--greedy`
abbrev pub IsDetermined : SettingsData → Type 0
IsDetermined d = (file : List ℕ) → d.aim ≡ whole file → d.greedy ≡ false

-- words whose settings are determined have one status and one text at most
abbrev pub OneReply : Type 0
OneReply =
    (words : List (List ℕ)) (bytes : List ℕ) → ((d : SettingsData) → AreSettings words d → IsDetermined d)
    → (s : Status) (text : List ℕ) (t : Status) (other : List ℕ) → Replies words bytes s text → Replies words bytes t other → (s ≡ t) × (text ≡ other)

-- for all words and all bytes of their file there are a status and a text
abbrev pub SomeReply : Type 0
SomeReply = (words : List (List ℕ)) (bytes : List ℕ) → (s : Status) × (text : List ℕ) × Replies words bytes s text
