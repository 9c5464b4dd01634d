-- What the matches of the command hold.
use Rattle.std.specs.Prelude.{◌≡◌, true, List, codes}
use Rattle.std.specs.List.{list_all}
use Rattle.clap.specs.Words.{Row, first_of}
use Rattle.qk_enum_words.specs.declared.options.OptionName.{OptionName}
use Rattle.qk_enum_words.specs.Options.{option_text}
use Rattle.qk_enum_words.specs.Parts.{Part, given, is_given, is_part}

-- the rows have what the parts of a call give: the value of each option and of FILE
pub record AreMatches (ps : List Part) (rows : List Row) : Type 0 where
  pub values : (n : OptionName) → first_of (option_text n) rows ≡ given (option_text n) ps
  pub file : first_of (codes "file") rows ≡ given (codes "file") ps
  pub parts : list_all is_part ps ≡ true
  pub named : is_given (codes "file") ps ≡ true

abbrev pub HasMatches : List Row → Type 0
HasMatches rows = (ps : List Part) × AreMatches ps rows
