-- The parts of a call's words, and the words that they are written as.
use Rattle.std.specs.Prelude.{ℕ, Bool, true, false, not, ◌==◌, ◌&&◌, List, [], ◌∷◌, ◌++◌, Option, option_map, find, length, codes, nat_le, nat_lt, is_some}
use Rattle.std.specs.List.{list_all}
use Rattle.std.specs.Option.{option_map_or}
use Rattle.std.specs.Str.{bytes_eq, all_ascii_digits}
use Rattle.std.specs.Str.Parse.{digits_value}
use Rattle.qk_words.specs.declared.options.OptionName.{OptionName}
use Rattle.qk_words.specs.declared.options.FlagName.{FlagName}
use Rattle.qk_words.specs.Options.{Text, option_text, flag_text, range_of}

-- an option and its value, in two words or in one; a flag; FILE
pub data Part : Type 0 where
  split : OptionName → Text → Part
  joined : OptionName → Text → Part
  flag : FlagName → Part
  file : Text → Part

abbrev pub words_of : Part → List Text
words_of (split n v) = (codes "--" ++ option_text n) ∷ v ∷ []
words_of (joined n v) = (codes "--" ++ (option_text n ++ 61 ∷ v)) ∷ []
words_of (flag f) = (codes "--" ++ flag_text f) ∷ []
words_of (file f) = f ∷ []

abbrev pub spelled : List Part → List Text
spelled [] = []
spelled (p ∷ ps) = words_of p ++ spelled ps

-- what a part gives, and the value given for it
abbrev pub key_of : Part → Text
key_of (split n v) = option_text n
key_of (joined n v) = option_text n
key_of (flag f) = flag_text f
key_of (file f) = codes "file"

abbrev pub value_of : Part → Text
value_of (split n v) = v
value_of (joined n v) = v
value_of (flag f) = codes "true"
value_of (file f) = f

-- the value given for a key
abbrev pub given : Text → List Part → Option Text
given key ps = option_map value_of (find (λ p. bytes_eq (key_of p) key) ps)

abbrev pub is_given : Text → List Part → Bool
is_given key ps = is_some (given key ps)

-- not empty, and does not begin with `-`
abbrev pub is_plain : Text → Bool
is_plain [] = false
is_plain (c ∷ cs) = not (c == 45)

-- one to twenty decimal digits, and the number that they write
abbrev pub is_number : Text → Bool
is_number v = nat_lt 0 (length v) && (nat_le (length v) 20 && all_ascii_digits v)

abbrev pub number : Text → ℕ
number v = digits_value 10 v

abbrev pub is_number_within : ℕ → ℕ → Text → Bool
is_number_within least greatest v = is_number v && (nat_le least (number v) && nat_le (number v) greatest)

-- the value is one of that option: a number in its range, or any word for a token
abbrev pub fits : OptionName → Text → Bool
fits n v = option_map_or (λ r. is_number_within r.0 r.1 v) (range_of n) true

abbrev pub is_part : Part → Bool
is_part (split n v) = is_plain v && fits n v
is_part (joined n v) = is_plain v && fits n v
is_part (flag f) = true
is_part (file f) = is_plain f

abbrev pub is_new : Part → List Part → Bool
is_new p ps = list_all (λ q. not (bytes_eq (key_of p) (key_of q))) ps

-- no key is given twice
abbrev pub are_once : List Part → Bool
are_once [] = true
are_once (p ∷ ps) = is_new p ps && are_once ps
