-- The parts of a call's words, and the words that they are written as.
use Rattle.std.specs.Prelude.{Bool, true, not, ◌&&◌, List, [], ◌∷◌, ◌++◌, Option, option_map, find, codes, is_some}
use Rattle.std.specs.List.{list_all}
use Rattle.std.specs.Str.{bytes_eq}
use Rattle.qk_words.specs.Parts.{is_plain, is_number_within}
use Rattle.qk_enum_words.specs.declared.options.OptionName.{OptionName}
use Rattle.qk_enum_words.specs.Options.{Text, option_text, range_of}

-- an option and its value, in two words or in one; FILE
pub data Part : Type 0 where
  split : OptionName → Text → Part
  joined : OptionName → Text → Part
  file : Text → Part

abbrev pub words_of : Part → List Text
words_of (split n v) = (codes "--" ++ option_text n) ∷ v ∷ []
words_of (joined n v) = (codes "--" ++ (option_text n ++ 61 ∷ v)) ∷ []
words_of (file f) = f ∷ []

abbrev pub spelled : List Part → List Text
spelled [] = []
spelled (p ∷ ps) = words_of p ++ spelled ps

-- what a part gives, and the value given for it
abbrev pub key_of : Part → Text
key_of (split n v) = option_text n
key_of (joined n v) = option_text n
key_of (file f) = codes "file"

abbrev pub value_of : Part → Text
value_of (split n v) = v
value_of (joined n v) = v
value_of (file f) = f

-- the value given for a key
abbrev pub given : Text → List Part → Option Text
given key ps = option_map value_of (find (λ p. bytes_eq (key_of p) key) ps)

abbrev pub is_given : Text → List Part → Bool
is_given key ps = is_some (given key ps)

-- the value is a number in the range of that option
abbrev pub fits : OptionName → Text → Bool
fits n v = is_number_within (range_of n).0 (range_of n).1 v

abbrev pub is_part : Part → Bool
is_part (split n v) = is_plain v && fits n v
is_part (joined n v) = is_plain v && fits n v
is_part (file f) = is_plain f

abbrev pub is_new : Part → List Part → Bool
is_new p ps = list_all (λ q. not (bytes_eq (key_of p) (key_of q))) ps

-- no key is given twice
abbrev pub are_once : List Part → Bool
are_once [] = true
are_once (p ∷ ps) = is_new p ps && are_once ps
