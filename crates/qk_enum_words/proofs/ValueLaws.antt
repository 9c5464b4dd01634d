-- The values that fit their options.
use Rattle.std.proofs.Common.{◌≡◌, ℕ, ◌^◌, lit<, ◌<◌, true, List, arith}
use Rattle.qk_words.specs.Parts.{is_number, number}
use Rattle.qk_words.proofs.ValueLaws.{within_parts}
use Rattle.qk_enum_words.specs.declared.options.OptionName.{OptionName}
use Rattle.qk_enum_words.specs.declared.options.OptionName.TheVariants.{Depth, Cases, Fuel, Workers}
use Rattle.qk_enum_words.specs.Options.{range_of, IsTaken}
use Rattle.qk_enum_words.specs.Parts.{fits}

-- a value that fits its option is a number that the option takes
pub record IsNumberOf (n : OptionName) (v : List ℕ) : Type 0 where
  pub digits : is_number v ≡ true
  pub taken : IsTaken n (number v)
  pub wide : number v < 2 ^ 64

range_small : (n : OptionName) → (range_of n).1 < 2 ^ 64
range_small Depth = lit< tt
range_small Cases = lit< tt
range_small Fuel = lit< tt
range_small Workers = lit< tt

pub fitting : (n : OptionName) (v : List ℕ) → fits n v ≡ true → IsNumberOf n v
fitting n v h =
    let parts = within_parts (range_of n).0 (range_of n).1 v h in
    let small = range_small n in
    record { digits = parts.0; taken = parts.1; wide = omega (arith, parts.1.1, small) }
