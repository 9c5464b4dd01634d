-- Settings as plain data.
use Rattle.std.specs.Prelude.{ℕ, ◌≤◌}
use Rattle.qk_enum_words.specs.declared.settings.EnumSettings.{EnumSettings}
use Rattle.qk_enum_words.specs.Options.{Text}

pub record SettingsData : Type 0 where
  pub depth : ℕ
  pub cases : ℕ
  pub fuel : ℕ
  pub workers : ℕ
  pub file : Text

abbrev pub settings_in : EnumSettings → SettingsData
settings_in s = record { depth = s.depth; cases = s.cases; fuel = s.fuel; workers = s.workers; file = s.file.now }

-- each number of the settings is in its range
pub record AreInRange (s : SettingsData) : Type 0 where
  pub depth : s.depth ≤ 8
  pub cases : (1 ≤ s.cases) × (s.cases ≤ 1000000)
  pub fuel : (1 ≤ s.fuel) × (s.fuel ≤ 1000000)
  pub workers : (1 ≤ s.workers) × (s.workers ≤ 64)
