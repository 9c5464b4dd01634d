-- What holds of all replies of exhaustive runs.
use Rattle.std.specs.Prelude.{◌≡◌, ◌↔◌, ℕ, List}
use Rattle.qk_base.specs.declared.status.Status.{Status}
use Rattle.qk_enum_words.specs.SettingsData.{SettingsData}
use Rattle.qk_enum.specs.Reply.{Replies, ReplyOf}

-- the settings with another number of workers
abbrev pub with_workers : ℕ → SettingsData → SettingsData
with_workers n d = record { depth = d.depth; cases = d.cases; fuel = d.fuel; workers = n; file = d.file }

-- settings that differ in the number of workers have the same replies
abbrev pub WorkersDecideNothing : Type 0
WorkersDecideNothing = (d : SettingsData) (n : ℕ) (bytes : List ℕ) (s : Status) (text : List ℕ) → ReplyOf (with_workers n d) bytes s text ↔ ReplyOf d bytes s text

-- words and bytes have one status and one text at most
abbrev pub OneReply : Type 0
OneReply =
    (words : List (List ℕ)) (bytes : List ℕ) (s : Status) (text : List ℕ) (t : Status) (other : List ℕ)
    → Replies words bytes s text → Replies words bytes t other → (s ≡ t) × (text ≡ other)

-- for all words and all bytes of their file there are a status and a text
abbrev pub SomeReply : Type 0
SomeReply = (words : List (List ℕ)) (bytes : List ℕ) → (s : Status) × (text : List ℕ) × Replies words bytes s text
