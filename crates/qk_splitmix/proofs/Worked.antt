-- Worked numbers, computed by the definitions.
use Rattle.std.proofs.Common.{◌≡◌, ℕ, zero, suc, ◌+◌, ◌/◌, ◌%◌, pos, negsuc, bit_xor, count_ones, nat_lt, if◌then◌else◌, refl, ap, ◌∙◌}
use Rattle.std.specs.Int.Count.{ones_step}
use lib.Count.{ones}
use Rattle.qk_splitmix.specs.SplitMix.{Generator, shifted_onto, start, left, mix64, mix13, mix_gamma, stirred, spread_bits}
use Rattle.qk_splitmix.specs.Picking.{pick}

-- the one bits, counted one after another
abbrev counted : ℕ → ℕ → ℕ
counted zero n = count_ones n
counted (suc k) n = n % 2 + counted k (n / 2)

counted_is : (k n : ℕ) → count_ones n ≡ counted k n
counted_is zero n = refl
counted_is (suc k) n = ones_step n ∙ ap (λ more. n % 2 + more) (counted_is k (n / 2))

abbrev spread_counted : ℕ → ℕ
spread_counted g = (if nat_lt (counted 64 (shifted_onto 1 g)) 24 then bit_xor g 0xaaaaaaaaaaaaaaaa else g)

spread_is : (g : ℕ) → spread_bits g ≡ spread_counted g
unfolding spread_bits
spread_is g = ap (λ count. if nat_lt count 24 then bit_xor g 0xaaaaaaaaaaaaaaaa else g) (counted_is 64 (shifted_onto 1 g))

start_0 : start 0 ≡ record { seed = 0; gamma = 0xe220a8397b1dcdaf }
unfolding start mix64 mix13 mix_gamma stirred ones
start_0 = ap (λ gamma. let made : Generator = record { seed = 0; gamma = gamma } in made) (spread_is 0xe220a8397b1dcdaf)

left_0 : left (start 0) ≡ record { seed = 0xc4415072f63b9b5e; gamma = 0xe220a8397b1dcdaf }
unfolding left
left_0 = ap left start_0

-- a gamma with too few changes from bit to bit
start_12 : start 12 ≡ record { seed = 0x88f52b3844a8b035; gamma = 0x3e955356337425a9 }
unfolding start mix64 mix13 mix_gamma stirred ones
start_12 = ap (λ gamma. let made : Generator = record { seed = 0x88f52b3844a8b035; gamma = gamma } in made) (spread_is 0x943ff9fc99de8f03)

pick_least : pick 0 (negsuc 1) (pos 2) ≡ negsuc 1
unfolding pick
pick_least = refl

pick_greatest : pick 18446744073709551615 (negsuc 1) (pos 2) ≡ pos 2
unfolding pick
pick_greatest = refl

pick_upper_half : pick 9223372036854775808 (pos 0) (pos 1) ≡ pos 1
unfolding pick
pick_upper_half = refl

pick_least_of_all : pick 0 (negsuc 9223372036854775807) (pos 9223372036854775807) ≡ negsuc 9223372036854775807
unfolding pick
pick_least_of_all = refl

pick_greatest_of_all : pick 18446744073709551615 (negsuc 9223372036854775807) (pos 9223372036854775807) ≡ pos 9223372036854775807
unfolding pick
pick_greatest_of_all = refl
