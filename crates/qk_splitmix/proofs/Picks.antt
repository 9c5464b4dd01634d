-- A picked number as a step up from the least one.
use Rattle.std.proofs.Common.{◌≡◌, ℕ, ◌+◌, ◌*◌, ◌/◌, ◌^◌, ℤ, pos, ◌+ℤ◌, ◌-ℤ◌, ◌*ℤ◌, ◌≤ℤ◌, int_div, unsigned_abs, arith, ap}
use Rattle.qk_splitmix.specs.Picking.{pick}

span : (lo hi : ℤ) → lo ≤ℤ hi → (hi -ℤ lo) ≡ pos (unsigned_abs (hi -ℤ lo))
span lo hi ordered = grind arith

pub pick_is : (w : ℕ) (lo hi : ℤ) → lo ≤ℤ hi → pick w lo hi ≡ lo +ℤ pos (w * (unsigned_abs (hi -ℤ lo) + 1) / 2 ^ 64)
unfolding pick
pick_is w lo hi ordered = ap (λ d. lo +ℤ int_div (pos w *ℤ (d +ℤ pos 1)) (pos (2 ^ 64))) (span lo hi ordered)
