-- Sums over views, and how often a number stands in a list.
use Rattle.std.proofs.Common.{◌≡◌, ℕ, eqb, zero, suc, ◌+◌, ◌<◌, ◌≤◌, ◌≢◌, cond, List, [], ◌∷◌, ◌++◌, set, sym, refl, ap, ◌∙◌, subst, ⊎_elim, eq-eqb, ne_eqb, arith}
use mathlib.Core.Option.{some, some-injective, some-ne-none}
use mathlib.Core.Logic.{dite}
use native.Mathlib.Decide.{ℕ_discrete}
use lib.ListN.{get_elem?}
use Rattle.atomic_table.proofs.Lists.{at_set, at_snoc}
use Rattle.qk_totals.specs.Totals.{total, times, drawn}

module _ {V : Type 0} where
  pub total_set : (f : V → ℕ) (l : List V) (i : ℕ) (v w : V) → get_elem? l i ≡ some v → total f (set l i w) + f v ≡ total f l + f w
  total_set f [] i v w e = absurd (some-ne-none v (sym e))
  total_set f (x ∷ xs) zero v w e = let is : f x ≡ f v = ap f (some-injective x v e) in omega arith
  total_set f (x ∷ xs) (suc i) v w e = let r = total_set f xs i v w e in omega arith

  pub total_append : (f : V → ℕ) (xs ys : List V) → total f (xs ++ ys) ≡ total f xs + total f ys
  total_append f [] ys = omega arith
  total_append f (x ∷ xs) ys = let r = total_append f xs ys in omega arith

  pub le_total : (f : V → ℕ) (l : List V) (i : ℕ) (v : V) → get_elem? l i ≡ some v → f v ≤ total f l
  le_total f [] i v e = absurd (some-ne-none v (sym e))
  le_total f (x ∷ xs) zero v e = let is : f x ≡ f v = ap f (some-injective x v e) in omega arith
  le_total f (x ∷ xs) (suc i) v e = let r = le_total f xs i v e in omega arith

  pub total_mono : (f g : V → ℕ) (l : List V) → ((i : ℕ) (v : V) → get_elem? l i ≡ some v → f v ≤ g v) → total f l ≤ total g l
  total_mono f g [] h = omega arith
  total_mono f g (x ∷ xs) h = let one = h 0 x refl in let r = total_mono f g xs (λ i v e. h (suc i) v e) in omega arith

  -- where one view changes f by d
  pub moved : (f : V → ℕ) (l : List V) (i d : ℕ) (v w : V) → get_elem? l i ≡ some v → f w ≡ f v + d → total f (set l i w) ≡ total f l + d
  moved f l i d v w e h = let r = total_set f l i v w e in omega arith

  pub total_none : (f : V → ℕ) (l : List V) → ((i : ℕ) (v : V) → get_elem? l i ≡ some v → f v ≡ 0) → total f l ≡ 0
  total_none f [] h = refl
  total_none f (x ∷ xs) h = let one = h 0 x refl in let r = total_none f xs (λ i v e. h (suc i) v e) in omega arith

  -- where one view does not lose
  pub kept_pos : (f : V → ℕ) (l : List V) (i : ℕ) (v w : V) → get_elem? l i ≡ some v → f v ≤ f w → 0 < total f l → 0 < total f (set l i w)
  kept_pos f l i v w e h p = let r = total_set f l i v w e in omega arith

  pub each_set : (P : V → Type 0) (l : List V) (i : ℕ) (w : V) → ((j : ℕ) (u : V) → get_elem? l j ≡ some u → P u) → P w → (j : ℕ) (u : V) → get_elem? (set l i w) j ≡ some u → P u
  each_set P l i w all one j u e = ⊎_elim (λ (t : (j ≡ i) × (w ≡ u)). subst P t.1 one) (λ (t : (j ≢ i) × (get_elem? l j ≡ some u)). all j u t.1) (at_set l i j w u e)

  pub each_snoc : (P : V → Type 0) (l : List V) (w : V) → ((j : ℕ) (u : V) → get_elem? l j ≡ some u → P u) → P w → (j : ℕ) (u : V) → get_elem? (l ++ w ∷ []) j ≡ some u → P u
  each_snoc P l w all one j u e = ⊎_elim (λ (t : get_elem? l j ≡ some u). all j u t) (λ (t : w ≡ u). subst P t one) (at_snoc l w u j e)

pub times_append : (x : ℕ) (xs ys : List ℕ) → times x (xs ++ ys) ≡ times x xs + times x ys
times_append x [] ys = omega arith
times_append x (y ∷ xs) ys = let r = times_append x xs ys in omega arith

pub drawn_append : (r x : ℕ) (xs ys : List (ℕ × ℕ)) → drawn r x (xs ++ ys) ≡ drawn r x xs + drawn r x ys
drawn_append r x [] ys = omega arith
drawn_append r x (y ∷ xs) ys = let q = drawn_append r x xs ys in omega arith

pub one_same : (y x : ℕ) → y ≡ x → times x (y ∷ []) ≡ 1
one_same y x e = ap (λ b. cond b 1 0 + 0) (eq-eqb y x e)

pub one_other : (y x : ℕ) → y ≢ x → times x (y ∷ []) ≡ 0
one_other y x e = ap (λ b. cond b 1 0 + 0) (ne_eqb y x e)

pub draw_same : (r x : ℕ) (q y : ℕ) → q ≡ r → y ≡ x → drawn r x ((q, y) ∷ []) ≡ 1
draw_same r x q y e f = ap (λ b. cond b (cond (eqb y x) 1 0) 0 + 0) (eq-eqb q r e) ∙ ap (λ b. cond b 1 0 + 0) (eq-eqb y x f)

pub draw_elsewhere : (r x : ℕ) (q y : ℕ) → q ≢ r → drawn r x ((q, y) ∷ []) ≡ 0
draw_elsewhere r x q y e = ap (λ b. cond b (cond (eqb y x) 1 0) 0 + 0) (ne_eqb q r e)

pub draw_other : (r x : ℕ) (q y : ℕ) → q ≡ r → y ≢ x → drawn r x ((q, y) ∷ []) ≡ 0
draw_other r x q y e f = ap (λ b. cond b (cond (eqb y x) 1 0) 0 + 0) (eq-eqb q r e) ∙ ap (λ b. cond b 1 0 + 0) (ne_eqb y x f)

pub times_one : (m y : ℕ) → 0 < times m (y ∷ []) → y ≡ m
times_one m y h = dite (ℕ_discrete y m) (λ e. e) (λ ne. let z = one_other y m ne in absurd (omega arith))
