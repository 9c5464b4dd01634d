-- The strides are a layout.
use Rattle.std.proofs.Common.{◌≡◌, ℕ, ◌+◌, ◌-◌, ◌*◌, ◌/◌, ◌%◌, ◌<◌, ◌≤◌, length, get_or, subst, sym, div-add-mod', mul-le-mul_right, arith}
use Rattle.std.proofs.Math.Nat.{mod-lt}
use mathlib.Core.Logic.{dite}
use native.Mathlib.Decide.{dec_le}
use Rattle.qk_board.specs.Layouts.{IsLayout, stride_length, stride_lengths}
use Rattle.qk_board.specs.Tables.{table_at, table_inside, table_length, div_up, div_down, one_quotient}

pub length_small : (limit m r : ℕ) → 0 < m → limit ≤ 65536 → (limit + m - 1 - r) / m ≤ 65536
length_small limit m r pos few = dite (dec_le ((limit + m - 1 - r) / m) 65536) (λ k. k)
    (λ k. let e = div-add-mod' (limit + m - 1 - r) m in let big : 65537 ≤ (limit + m - 1 - r) / m = omega arith in let q : 65537 * m ≤ (limit + m - 1 - r) / m * m = mul-le-mul_right m big in absurd (omega arith))

module _ (limit m : ℕ) (pos : 0 < m) where
  inside : (r i : ℕ) → i < get_or (stride_lengths limit m) r 0 → r < m
  inside r i h = table_inside (stride_length limit m) m r i h

  len : (r : ℕ) → r < m → get_or (stride_lengths limit m) r 0 ≡ (limit + m - 1 - r) / m
  len r h = table_at (stride_length limit m) m r h

  pub stride_below : (r i : ℕ) → i < get_or (stride_lengths limit m) r 0 → i * m + r < limit
  stride_below r i h = let low = inside r i h in let d = div_up i (limit + m - 1 - r) m (subst (λ n. i < n) (len r low) h) in omega arith

  some_pair : (n : ℕ) → n < limit → (r : ℕ) × (i : ℕ) × (r < length (stride_lengths limit m)) × (i < get_or (stride_lengths limit m) r 0) × (i * m + r ≡ n)
  some_pair n h = let e = div-add-mod' n m in let l = mod-lt n pos in
      let fits : n / m * m + m ≤ limit + m - 1 - n % m = omega arith in
      (n % m, n / m, subst (λ k. n % m < k) (sym (table_length (stride_length limit m) 0 m)) l, subst (λ k. n / m < k) (sym (len (n % m) l)) (div_down (n / m) (limit + m - 1 - n % m) m pos fits), e)

  one_pair : (r i q j : ℕ) → i < get_or (stride_lengths limit m) r 0 → j < get_or (stride_lengths limit m) q 0 → i * m + r ≡ j * m + q → (r ≡ q) × (i ≡ j)
  one_pair r i q j h k e = let same = one_quotient i r j q m (inside r i h) (inside q j k) e in (same.1, same.0)

  pub strides_law : IsLayout limit (stride_lengths limit m) (λ r i. i * m + r)
  strides_law = record { below = stride_below; some = some_pair; one = one_pair }
