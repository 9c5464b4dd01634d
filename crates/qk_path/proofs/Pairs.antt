-- Two entries of a total, and lists where one entry was replaced.
use Rattle.std.proofs.Common.{◌≡◌, ℕ, zero, suc, ◌+◌, ◌≤◌, ◌≢◌, List, [], ◌∷◌, set, sym, refl, ap, subst, ⊎_elim, arith}
use mathlib.Core.Option.{some, some-injective, some-ne-none}
use lib.ListN.{get_elem?}
use Rattle.atomic_table.proofs.Lists.{at_set}
use Rattle.qk_totals.specs.Totals.{total}
use Rattle.qk_totals.proofs.Totals.{le_total}

module _ {V : Type 0} where
  -- two entries are counted beside each other
  pub pair_total : (f : V → ℕ) (l : List V) (i j : ℕ) (v u : V) → i ≢ j → get_elem? l i ≡ some v → get_elem? l j ≡ some u → f v + f u ≤ total f l
  pair_total f [] i j v u ne a b = absurd (some-ne-none v (sym a))
  pair_total f (x ∷ xs) zero zero v u ne a b = absurd (ne refl)
  pair_total f (x ∷ xs) zero (suc j) v u ne a b = let is : f x ≡ f v = ap f (some-injective x v a) in let r = le_total f xs j u b in omega arith
  pair_total f (x ∷ xs) (suc i) zero v u ne a b = let is : f x ≡ f u = ap f (some-injective x u b) in let r = le_total f xs i v a in omega arith
  pair_total f (x ∷ xs) (suc i) (suc j) v u ne a b = let r = pair_total f xs i j v u (λ e. ne (ap suc e)) a b in omega arith

  -- each entry meets a condition where the replaced one does, which the old entry at that place need not meet
  pub each_other : (P : V → Type 0) (l : List V) (i : ℕ) (w : V) → ((j : ℕ) (u : V) → j ≢ i → get_elem? l j ≡ some u → P u) → P w → (j : ℕ) (u : V) → get_elem? (set l i w) j ≡ some u → P u
  each_other P l i w all one j u e = ⊎_elim (λ (t : (j ≡ i) × (w ≡ u)). subst P t.1 one) (λ (t : (j ≢ i) × (get_elem? l j ≡ some u)). all j u t.0 t.1) (at_set l i j w u e)
