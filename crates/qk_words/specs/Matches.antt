-- What the matches of the command hold.
use Rattle.std.specs.Prelude.{◌≡◌, ◌<◌, ◌^◌, ℕ, true, List, Some, codes, if◌then◌else◌}
use Rattle.std.specs.List.{list_all}
use Rattle.clap.specs.Words.{Row, first_of}
use Rattle.clap.specs.Walk.{one_of}
use Rattle.qk_words.specs.declared.options.OptionName.{OptionName}
use Rattle.qk_words.specs.declared.options.FlagName.{FlagName}
use Rattle.qk_words.specs.Options.{option_text, flag_text, IsTaken}
use Rattle.qk_words.specs.Parts.{Part, given, is_given, is_part}
use Rattle.qk_words.specs.Accepted.{has_aim, replays_file}

-- the rows have what the parts of a call give: the value of each option and of FILE, and each flag
pub record AreMatches (ps : List Part) (rows : List Row) : Type 0 where
  pub values : (n : OptionName) → first_of (option_text n) rows ≡ given (option_text n) ps
  pub file : first_of (codes "file") rows ≡ given (codes "file") ps
  pub flags : (f : FlagName) → one_of (flag_text f) rows ≡ Some (if is_given (flag_text f) ps then codes "true" else codes "false")
  pub parts : list_all is_part ps ≡ true
  pub aim : has_aim ps ≡ true
  pub replay : replays_file ps ≡ true

abbrev pub HasMatches : List Row → Type 0
HasMatches rows = (ps : List Part) × AreMatches ps rows

-- the option's numbers fit 32 bits
abbrev pub IsSmall : OptionName → Type 0
IsSmall name = (n : ℕ) → IsTaken name n → n < 2 ^ 32
