-- The options of a call: their names, and the numbers that an option takes.
use Rattle.std.specs.Prelude.{ℕ, ◌≤◌, List, codes}
use Rattle.qk_enum_words.specs.declared.options.OptionName.{OptionName}
use Rattle.qk_enum_words.specs.declared.options.OptionName.TheVariants.{Depth, Cases, Fuel, Workers}

abbrev pub Text : Type 0
Text = List ℕ

abbrev pub option_text : OptionName → Text
option_text Depth = codes "depth"
option_text Cases = codes "cases"
option_text Fuel = codes "fuel"
option_text Workers = codes "workers"

-- the least and the greatest number that the option takes
abbrev pub range_of : OptionName → ℕ × ℕ
range_of Depth = (0, 8)
range_of Cases = (1, 1000000)
range_of Fuel = (1, 1000000)
range_of Workers = (1, 64)

-- the number is one that the option takes
abbrev pub IsTaken : OptionName → ℕ → Type 0
IsTaken name n = ((range_of name).0 ≤ n) × (n ≤ (range_of name).1)
