-- Which words are accepted.
use Rattle.std.specs.Prelude.{◌≡◌, true, List, codes}
use Rattle.std.specs.List.{list_all}
use Rattle.qk_enum_words.specs.Options.{Text}
use Rattle.qk_enum_words.specs.Parts.{Part, spelled, is_part, are_once, is_given}

-- the words are these parts, each at most once, and FILE is one of them
pub record IsSpelling (words : List Text) (ps : List Part) : Type 0 where
  pub words_are : words ≡ spelled ps
  pub parts : list_all is_part ps ≡ true
  pub once : are_once ps ≡ true
  pub file : is_given (codes "file") ps ≡ true

abbrev pub IsAccepted : List Text → Type 0
IsAccepted words = (ps : List Part) × IsSpelling words ps
