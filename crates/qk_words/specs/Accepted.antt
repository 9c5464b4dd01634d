-- Which words are accepted.
use Rattle.std.specs.Prelude.{◌≡◌, Bool, true, not, ◌||◌, List, codes, if◌then◌else◌}
use Rattle.std.specs.List.{list_all}
use Rattle.qk_words.specs.declared.options.OptionName.TheVariants.{Replay, Generate}
use Rattle.qk_words.specs.Options.{Text, option_text}
use Rattle.qk_words.specs.Parts.{Part, spelled, is_part, are_once, is_given}

-- exactly one of two
abbrev pub is_one : Bool → Bool → Bool
is_one a b = if a then not b else b

-- exactly one of FILE and `--generate` is given, and `--replay` only with FILE
abbrev pub has_aim : List Part → Bool
has_aim ps = is_one (is_given (codes "file") ps) (is_given (option_text Generate) ps)

abbrev pub replays_file : List Part → Bool
replays_file ps = not (is_given (option_text Replay) ps) || is_given (codes "file") ps

-- the words are these parts, and meet the conditions of a call
pub record IsSpelling (words : List Text) (ps : List Part) : Type 0 where
  pub words_are : words ≡ spelled ps
  pub parts : list_all is_part ps ≡ true
  pub once : are_once ps ≡ true
  pub aim : has_aim ps ≡ true
  pub replay : replays_file ps ≡ true

abbrev pub IsAccepted : List Text → Type 0
IsAccepted words = (ps : List Part) × IsSpelling words ps
