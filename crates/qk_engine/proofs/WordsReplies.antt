-- Replies to words, and to the settings that they give.
use Rattle.std.proofs.Common.{◌≡◌, ◌⊎◌, ℕ, List, Option, subst, inl, inr}
use Rattle.qk_base.specs.declared.status.Status.{Status}
use Rattle.qk_base.specs.declared.status.Status.TheVariants as status
use Rattle.qk_words.specs.Accepted.{IsAccepted}
use Rattle.qk_words.specs.Given.{AreSettings, HasBadToken}
use Rattle.qk_words.specs.SettingsData.{SettingsData}
use Rattle.qk_words.proofs.OneAnswer.{one_settings, no_bad_token}
use Rattle.qk_engine.specs.Reply.{AimNames, AimTells, IsRunnable, MayRun, Names, Tells}

module _ (words : List (List ℕ)) where
  -- what the words name is what their settings name
  pub names_of_settings : (d : SettingsData) (file : List ℕ) → AreSettings words d → Names words file → AimNames d.aim file
  names_of_settings d file are named = subst (λ (e : SettingsData). AimNames e.aim file) (one_settings words named.0 d named.1 are) named.2

  pub tells_of_settings : (holds : List ℕ → Option (List ℕ)) (d : SettingsData) (bytes : List ℕ) → AreSettings words d → Tells holds words bytes → AimTells holds d.aim bytes
  tells_of_settings holds d bytes are told = λ file names. told file (d, are, names)

  -- what may run by words may run by their settings
  pub runs_by_settings : (d : SettingsData) (bytes : List ℕ) → AreSettings words d → MayRun words bytes → IsRunnable d.aim bytes
  runs_by_settings d bytes are may = subst (λ (e : SettingsData). IsRunnable e.aim bytes) (one_settings words may.0 d may.1 are) may.2

  -- words that may run are accepted, and have no bad token
  pub accepted_runs : (bytes : List ℕ) → MayRun words bytes → IsAccepted words
  accepted_runs bytes may = (may.1.0, may.1.1.0)

  pub no_bad_token_runs : (bytes : List ℕ) → MayRun words bytes → HasBadToken words → ⊥
  no_bad_token_runs bytes may bad = no_bad_token words may.0 may.1 bad

-- a fault that is not licensed is want of memory
pub no_fault : (names : List ℕ → Type 0) (risen : List ℕ → Type 0) (P : Type 0) (s : Status) → (s ≡ status.ReadFault) ⊎ (s ≡ status.Memory) → (s ≡ status.ReadFault → (file : List ℕ) × names file × risen file)
    → ((file : List ℕ) → names file → risen file → ⊥) → P ⊎ (s ≡ status.Memory)
no_fault names risen P s fault read none = elim fault as (λ _. P ⊎ (s ≡ status.Memory)) [
  | inl e ↦ let found = read e in absurd (none found.0 found.1 found.2)
  | inr e ↦ inr e
]
