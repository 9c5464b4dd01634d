-- A place that is picked by a word is one of the places.
use Rattle.std.proofs.Common.{◌≡◌, ℕ, ◌+◌, ◌-◌, ◌*◌, ◌/◌, ◌^◌, ◌<◌, ◌≤◌, max, pos, ◌-ℤ◌, ◌≤ℤ◌, unsigned_abs, ap, arith}
use Rattle.std.proofs.Math.Nat.{div-lt_iff_lt-mul, mod-lt}
use Rattle.std.proofs.lemmas.Nat.{xor_lt}
use Rattle.qk_gen.specs.Drawing.{length_of, place, up_to}
use Rattle.qk_splitmix.proofs.Picks.{pick_is}
use Rattle.qk_splitmix.specs.Picking.{pick}
use Rattle.qk_splitmix.specs.SplitMix.{Generator, shifted_onto, stirred, mix64, stepped, word}

shifted_below : (z : ℕ) → z < 2 ^ 64 → shifted_onto 33 z < 2 ^ 64
shifted_below z h = xor_lt 64 z (z / 2 ^ 33) h (omega (arith, h))

stirred_below : (k factor z : ℕ) → stirred k factor z < 2 ^ 64
unfolding stirred
stirred_below k factor z = mod-lt (shifted_onto k z * factor) (omega arith)

word_below : (g : Generator) → word g < 2 ^ 64
unfolding word mix64
word_below g = shifted_below _ (stirred_below 33 0xc4ceb9fe1a85ec53 (stirred 33 0xff51afd7ed558ccd (stepped 1 g)))

scaled : (w d p : ℕ) → w < p → w * (d + 1) < (d + 1) * p
scaled w d p h = grind (arith, h)

share_below : (w d p : ℕ) → w < p → w * (d + 1) / p < d + 1
share_below w d p h = (div-lt_iff_lt-mul (omega (arith, h))).1 (scaled w d p h)

-- a number of an interval from one number up to another, as a length
picked : (g : Generator) (lo hi : ℕ) → lo ≤ hi → (lo ≤ length_of (pick (word g) (pos lo) (pos hi))) × (length_of (pick (word g) (pos lo) (pos hi)) ≤ hi)
picked g lo hi h =
    let ordered : pos lo ≤ℤ pos hi = grind (arith, h) in
    let span : unsigned_abs (pos hi -ℤ pos lo) ≡ hi - lo = grind (arith, h) in
    let q = word g * (unsigned_abs (pos hi -ℤ pos lo) + 1) / 2 ^ 64 in
    let below : q < unsigned_abs (pos hi -ℤ pos lo) + 1 = share_below (word g) (unsigned_abs (pos hi -ℤ pos lo)) (2 ^ 64) (word_below g) in
    let is : length_of (pick (word g) (pos lo) (pos hi)) ≡ lo + q = ap length_of (pick_is (word g) (pos lo) (pos hi) ordered) in
    (omega (arith, is), omega (arith, is, below, span, h))

pub place_below : (g : Generator) (count : ℕ) → 0 < count → place g count < count
place_below g count h = omega (arith, h, (picked g 0 (count - 1) (omega arith)).1)

pub up_to_within : (g : Generator) (count : ℕ) → 0 < count → (1 ≤ up_to g count) × (up_to g count ≤ count)
up_to_within g count h = let both = picked g 1 (max count 1) (omega (arith, h)) in (both.0, omega (arith, h, both.1))
