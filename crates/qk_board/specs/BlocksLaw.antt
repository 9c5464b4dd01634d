-- The blocks are a layout.
use Rattle.std.proofs.Common.{◌≡◌, ℕ, suc, ◌+◌, ◌-◌, ◌*◌, ◌/◌, ◌%◌, ◌<◌, ◌≤◌, min, length, get_or, subst, sym, ap, ◌∙◌, div-add-mod', mul-le-mul_right, arith}
use Rattle.std.proofs.Math.Nat.{mod-lt}
use mathlib.Core.Logic.{dite}
use native.Mathlib.Decide.{dec_le}
use Rattle.qk_board.specs.Layouts.{IsLayout, block_width, block_length, block_lengths}
use Rattle.qk_board.specs.Tables.{table_at, table_inside, table_length, one_quotient}

width_or_less : (w rest i : ℕ) → i < min w rest → (i < w) × (i < rest)
width_or_less w rest i h = (omega arith, omega arith)

both_below : (w rest i : ℕ) → i < w → i < rest → i < min w rest
both_below w rest i h k = omega arith

before_limit : (start limit i : ℕ) → i < limit - start → start + i < limit
before_limit start limit i h = omega arith

left_of : (start limit i : ℕ) → start + i < limit → i < limit - start
left_of start limit i h = omega arith

module _ (limit m : ℕ) (pos : 0 < m) where
  abbrev w : ℕ
  w = block_width limit m

  -- the blocks have room for all numbers
  pub covers : limit ≤ m * w
  covers = let e = div-add-mod' (limit + m - 1) m in let l = mod-lt (limit + m - 1) pos in omega arith

  len : (r : ℕ) → r < m → get_or (block_lengths limit m) r 0 ≡ block_length limit m r
  len r h = table_at (block_length limit m) m r h

  parts : (r i : ℕ) → i < get_or (block_lengths limit m) r 0 → (i < w) × (i < limit - r * w)
  parts r i h = let low = table_inside (block_length limit m) m r i h in width_or_less w (limit - r * w) i (subst (λ n. i < n) (len r low) h)

  pub block_below : (r i : ℕ) → i < get_or (block_lengths limit m) r 0 → r * w + i < limit
  block_below r i h = before_limit (r * w) limit i (parts r i h).1

  some_width : (n : ℕ) → n < limit → 0 < w
  some_width n h = dite (dec_le 1 w) (λ k. k) (λ k. let z : w ≤ 0 = omega arith in let q : w * m ≤ 0 * m = mul-le-mul_right m z in let c = covers in absurd (omega arith))

  in_range : (n : ℕ) → n < limit → n / w < m
  in_range n h = dite (dec_le (suc (n / w)) m) (λ k. k) (λ k. let le : m ≤ n / w = omega arith in let q : m * w ≤ n / w * w = mul-le-mul_right w le in let e = div-add-mod' n w in let c = covers in absurd (omega arith))

  some_pair : (n : ℕ) → n < limit → (r : ℕ) × (i : ℕ) × (r < length (block_lengths limit m)) × (i < get_or (block_lengths limit m) r 0) × (r * w + i ≡ n)
  some_pair n h = let e = div-add-mod' n w in let l = mod-lt n (some_width n h) in let low = in_range n h in
      let is : n / w * w + n % w < limit = omega arith in (
        n / w,
        n % w,
        subst (λ k. n / w < k) (sym (table_length (block_length limit m) 0 m)) low,
        subst (λ k. n % w < k) (sym (len (n / w) low)) (both_below w (limit - n / w * w) (n % w) l (left_of (n / w * w) limit (n % w) is)),
        e,
      )

  one_pair : (r i q j : ℕ) → i < get_or (block_lengths limit m) r 0 → j < get_or (block_lengths limit m) q 0 → r * w + i ≡ q * w + j → (r ≡ q) × (i ≡ j)
  one_pair r i q j h k e = one_quotient r i q j w (parts r i h).0 (parts q j k).0 e

  pub blocks_law : IsLayout limit (block_lengths limit m) (λ r i. r * w + i)
  blocks_law = record { below = block_below; some = some_pair; one = one_pair }

-- the length of a block by its width
pub block_at : (limit m r v len : ℕ) → r < m → v ≡ block_width limit m → len ≡ min v (limit - r * v) → len ≡ get_or (block_lengths limit m) r 0
block_at limit m r v len low e is = is ∙ (ap (λ n. min n (limit - r * n)) e ∙ sym (table_at (block_length limit m) m r low))

pub min_left : (a b : ℕ) → min a b ≤ a
min_left a b = omega arith

pub block_none : (limit start v : ℕ) → limit ≤ start → 0 ≡ min v (limit - start)
block_none limit start v h = omega arith
