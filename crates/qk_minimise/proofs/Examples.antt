-- Descents that were worked out by hand.
use Rattle.std.proofs.Common.{◌≡◌, ℕ, ◌+◌, ◌-◌, ◌/◌, ◌^◌, ◌==◌, ◌||◌, nat_le, min, true, false, List, [], ◌∷◌, map, refl}
use Rattle.std.specs.List.{range_with_len}
use Rattle.qk_minimise.specs.Descent.{descent}

-- the candidates x, x / 2, x / 4 and so on below a number x, for numbers below 32
abbrev halves : ℕ → List ℕ
halves x = map (λ k. x - x / 2 ^ k) (range_with_len 0 (min x 1 + min (x / 2) 1 + min (x / 4) 1 + min (x / 8) 1 + min (x / 16) 1))

-- from 8, of whose candidates 0, 4, 6 and 7 the third is the first to fail, by way of 6
pub five_or_more : descent halves (λ x. nat_le 5 x) 1024 8 ≡ record { point = 5; path = 2 ∷ 2 ∷ []; tried = 9; limit_met = false }
five_or_more = refl

pub one_step : descent halves (λ x. nat_le 5 x) 1 8 ≡ record { point = 6; path = 2 ∷ []; tried = 3; limit_met = true }
one_step = refl

pub no_step : descent halves (λ x. nat_le 5 x) 0 8 ≡ record { point = 8; path = []; tried = 0; limit_met = true }
no_step = refl

-- from 16 to 8, whose candidates 0, 4, 6 and 7 pass, though 12 fails too
pub sixteen_eight_twelve : descent halves (λ x. x == 16 || x == 8 || x == 12) 1024 16 ≡ record { point = 8; path = 1 ∷ []; tried = 6; limit_met = false }
sixteen_eight_twelve = refl
