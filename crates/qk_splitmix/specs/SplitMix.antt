-- SplitMix words and splits, as equations modulo 2 ^ 64 over whole numbers without bounds.
use Rattle.std.specs.Prelude.{ℕ, ◌+◌, ◌*◌, ◌/◌, ◌%◌, ◌^◌, bit_or, bit_xor, count_ones, nat_lt, if◌then◌else◌}

-- what a contract sees of a generator
pub record Generator : Type 0 where
  pub seed : ℕ
  pub gamma : ℕ

-- a number, exclusive or itself shifted right by k bits
abbrev pub shifted_onto : ℕ → ℕ → ℕ
shifted_onto k z = bit_xor z (z / 2 ^ k)

-- that, times a factor
unfoldable pub stirred : ℕ → ℕ → ℕ → ℕ
stirred k factor z = shifted_onto k z * factor % 2 ^ 64

unfoldable pub mix64 : ℕ → ℕ
mix64 z = shifted_onto 33 (stirred 33 0xc4ceb9fe1a85ec53 (stirred 33 0xff51afd7ed558ccd z))

unfoldable pub mix13 : ℕ → ℕ
mix13 z = shifted_onto 31 (stirred 27 0x94d049bb133111eb (stirred 30 0xbf58476d1ce4e5b9 z))

-- a gamma whose neighbouring bits differ in fewer than 24 places has every second bit turned
unfoldable pub spread_bits : ℕ → ℕ
spread_bits g = (if nat_lt (count_ones (shifted_onto 1 g)) 24 then bit_xor g 0xaaaaaaaaaaaaaaaa else g)

unfoldable pub mix_gamma : ℕ → ℕ
mix_gamma z = spread_bits (bit_or (mix13 z) 1)

-- the generator of a number
unfoldable pub start : ℕ → Generator
start number = record { seed = mix64 number; gamma = mix_gamma ((number + 0x9e3779b97f4a7c15) % 2 ^ 64) }

-- the seed, n gammas on
abbrev pub stepped : ℕ → Generator → ℕ
stepped n g = (g.seed + n * g.gamma) % 2 ^ 64

-- the next word of a generator
unfoldable pub word : Generator → ℕ
word g = mix64 (stepped 1 g)

-- the generator after its next word
unfoldable pub after : Generator → Generator
after g = record { seed = stepped 1 g; gamma = g.gamma }

-- the two halves of a split
unfoldable pub left : Generator → Generator
left g = record { seed = stepped 2 g; gamma = g.gamma }

unfoldable pub right : Generator → Generator
right g = record { seed = mix64 (stepped 1 g); gamma = mix_gamma (stepped 2 g) }
