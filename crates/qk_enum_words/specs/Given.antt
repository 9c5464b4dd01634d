-- The settings that accepted words give.
use Rattle.std.specs.Prelude.{◌≡◌, ℕ, List, Some, codes}
use Rattle.std.specs.Option.{option_map_or}
use Rattle.qk_words.specs.Parts.{number}
use Rattle.qk_enum_words.specs.declared.options.OptionName.{OptionName}
use Rattle.qk_enum_words.specs.declared.options.OptionName.TheVariants.{Depth, Cases, Fuel, Workers}
use Rattle.qk_enum_words.specs.Options.{Text, option_text}
use Rattle.qk_enum_words.specs.Parts.{Part, given}
use Rattle.qk_enum_words.specs.Accepted.{IsSpelling}
use Rattle.qk_enum_words.specs.SettingsData.{SettingsData}

-- the number that is given for an option, else its default
abbrev pub number_given : OptionName → ℕ → List Part → ℕ
number_given n default ps = option_map_or number (given (option_text n) ps) default

-- the settings that parts give
pub record Gives (ps : List Part) (s : SettingsData) : Type 0 where
  pub depth : s.depth ≡ number_given Depth 3 ps
  pub cases : s.cases ≡ number_given Cases 100000 ps
  pub fuel : s.fuel ≡ number_given Fuel 100000 ps
  pub workers : s.workers ≡ number_given Workers 4 ps
  pub file : given (codes "file") ps ≡ Some s.file

-- the words are accepted, and give these settings
abbrev pub AreSettings : List Text → SettingsData → Type 0
AreSettings words s = (ps : List Part) × (IsSpelling words ps × Gives ps s)
