-- The board at the end.
use Rattle.std.proofs.Common.{◌≡◌, ℕ, zero, suc, ◌+◌, ◌-◌, ◌*◌, ◌/◌, ◌%◌, ◌<◌, ◌≤◌, min, ◌⊎◌, List, [], ◌∷◌, get_or, sym, ap, ◌∙◌, subst, arith}
use mathlib.Core.Logic.{dite}
use native.Mathlib.Decide.{dec_le}
use mathlib.Core.Option.{some, some-injective, some-ne-none}
use lib.ListN.{get_elem?}
use Rattle.qk_board.specs.declared.view.BoardView.{BoardView}
use Rattle.qk_totals.specs.Totals.{total, times, drawn, EachBelow}
use Rattle.qk_board.specs.Views.{length_at, draws_of, dries_of, lowers_of, sights_of, parts_of, IsEmptyView}
use Rattle.qk_board.specs.Rule.{IsLeast, Kept}
use Rattle.qk_board.specs.DryBits.{bit, TellsDry}
use Rattle.qk_totals.proofs.Gather.{alone}

pub read : {A : Type 0} (l : List A) (i : ℕ) (a d : A) → get_elem? l i ≡ some a → get_or l i d ≡ a
read [] i a d e = absurd (some-ne-none a (sym e))
read (x ∷ xs) zero a d e = some-injective x a e
read (x ∷ xs) (suc i) a d e = read xs i a d e

module _ (limit seats : ℕ) (lengths ws : List ℕ) (vs : List BoardView) (k : Kept limit seats lengths ws vs) (id : ℕ) (v : BoardView) (at : get_elem? vs id ≡ some v) (all : v.parts ≡ seats) where
  whole : (f : BoardView → ℕ) → ((u : BoardView) → IsEmptyView u → f u ≡ 0) → total f vs ≡ f v
  whole f h = alone parts_of f vs id v at (k.parts ∙ sym all) (λ i u e z. h u (k.idle i u e z))

  pub final_draws : (f : ℕ → ℕ → ℕ) → ((r x : ℕ) → draws_of r x v ≡ f r x) → (r : ℕ) → EachBelow (min (get_or ws (r + 1) 0) (length_at lengths r)) (λ x. f r x)
  final_draws f e r x = subst (λ m. (x < min (get_or ws (r + 1) 0) (length_at lengths r) → m ≡ 1) × (min (get_or ws (r + 1) 0) (length_at lengths r) ≤ x → m ≡ 0)) (whole (draws_of r x) (λ u z. ap (drawn r x) z.0) ∙ e r x) (k.draws r x)

  pub final_bound : (f : ℕ → ℕ) → ((n : ℕ) → lowers_of n v ≡ f n) → IsLeast limit f (get_or ws 0 0)
  final_bound f e = let same = λ (n : ℕ). whole (lowers_of n) (λ u z. ap (times n) z.2) ∙ e n in
      (k.bound.0, (λ n h. k.bound.1 n (subst (λ t. 0 < t) (sym (same n)) h)), subst (λ t. (get_or ws 0 0 ≡ limit) ⊎ (0 < t)) (same (get_or ws 0 0)) k.bound.2)

  pub final_dries : (f : ℕ → ℕ) → ((r : ℕ) → dries_of r v ≡ f r) → (r : ℕ) → f r ≡ get_or ws (r + 1) 0 - length_at lengths r
  final_dries f e r = sym (whole (dries_of r) (λ u z. ap (times r) z.1) ∙ e r) ∙ k.dries r

  pub final_seen : (f g : ℕ → ℕ) → ((n : ℕ) → sights_of n v ≡ f n) → ((n : ℕ) → lowers_of n v ≡ g n) → (n : ℕ) → 0 < f n → (get_or ws 0 0 ≤ n) × ((n ≡ limit) ⊎ (0 < g n))
  final_seen f g e d n h = let o = k.seen n (subst (λ t. 0 < t) (sym (whole (sights_of n) (λ u z. ap (times n) z.3) ∙ e n)) h) in
      (o.0, subst (λ t. (n ≡ limit) ⊎ (0 < t)) (whole (lowers_of n) (λ u z. ap (times n) z.2) ∙ d n) o.1)

  pub under : get_or ws 0 0 ≤ limit
  under = k.bound.0

half_full : (n d : ℕ) → n ≡ 2 * d + 1 → (n / 2 ≡ d) × (n % 2 ≡ 1)
half_full n d e = (omega arith, omega arith)

half_short : (n d : ℕ) → n ≡ 2 * d → (n / 2 ≡ d) × (n % 2 ≡ 0)
half_short n d e = (omega arith, omega arith)

module _ (lengths ws : List ℕ) (d n : ℕ) where
  One : ℕ → ℕ → Type 0
  One at b = (b ≡ 1 → length_at lengths at ≤ get_or ws (at + 1) 0) × (b ≡ 0 → get_or ws (at + 1) 0 < length_at lengths at)

  next : (low : ℕ) → TellsDry lengths ws (low + 1) d → n / 2 ≡ d → One low (n % 2) → TellsDry lengths ws low n
  unfolding One
  next low h e one zero in_range = let z : low ≡ low + 0 = omega arith in
      subst (λ at. (n % 2 ≡ 1 → length_at lengths at ≤ get_or ws (at + 1) 0) × (n % 2 ≡ 0 → get_or ws (at + 1) 0 < length_at lengths at)) z one
  next low h e one (suc r) in_range = let z : low + 1 + r ≡ low + suc r = omega arith in
      subst (λ at. (bit r (n / 2) ≡ 1 → length_at lengths at ≤ get_or ws (at + 1) 0) × (bit r (n / 2) ≡ 0 → get_or ws (at + 1) 0 < length_at lengths at)) z
      (subst (λ m. (bit r m ≡ 1 → length_at lengths (low + 1 + r) ≤ get_or ws (low + 1 + r + 1) 0) × (bit r m ≡ 0 → get_or ws (low + 1 + r + 1) 0 < length_at lengths (low + 1 + r))) (sym e) (h r (omega arith)))

  pub next_bit : (low word len : ℕ) → TellsDry lengths ws (low + 1) d → get_or ws (low + 1) 0 ≡ word → len ≡ length_at lengths low → (len ≤ word → n ≡ 2 * d + 1) → (word < len → n ≡ 2 * d) → TellsDry lengths ws low n
  unfolding One
  next_bit low word len h is same full short = dite (dec_le len word)
      (λ k. let t = half_full n d (full k) in let m = t.1 in next low h t.0 ((λ _. omega arith), (λ z. absurd (omega arith))))
      (λ k. let t = half_short n d (short (omega arith)) in let m = t.1 in next low h t.0 ((λ z. absurd (omega arith)), (λ _. omega arith)))
