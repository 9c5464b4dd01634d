-- The views of all seats in one, and lists that lose their last member.
use Rattle.std.proofs.Common.{◌≡◌, ℕ, zero, suc, ◌+◌, ◌<◌, ◌≤◌, List, [], ◌∷◌, ◌++◌, length, length-append, All, sym, refl, ap, subst, arith}
use Rattle.std.proofs.lemmas.List.Elements.{All-tail}
use mathlib.Core.Option.{some, some-injective, some-ne-none}
use lib.ListN.{get_elem?}
use Rattle.qk_totals.specs.Totals.{total}
use Rattle.qk_totals.proofs.Totals.{total_append, le_total}

module _ {X : Type 0} where
  pub all_last : (P : X → Type 0) (xs : List X) (x : X) → All P (xs ++ x ∷ []) → P x
  all_last P [] x h = h 0 x (omega arith)
  all_last P (y ∷ ys) x h = all_last P ys x (All-tail P y (ys ++ x ∷ []) h)

  pub all_front : (P : X → Type 0) (xs : List X) (x : X) → All P (xs ++ x ∷ []) → All P xs
  all_front P [] x h k d low = absurd (omega arith)
  all_front P (y ∷ ys) x h zero d low = h zero d (omega arith)
  all_front P (y ∷ ys) x h (suc k) d low = all_front P ys x (All-tail P y (ys ++ x ∷ []) h) k d (omega arith)

  pub all_snoc : (P : X → Type 0) (xs : List X) (x : X) → All P xs → P x → All P (xs ++ x ∷ [])
  all_snoc P [] x h p zero d low = p
  all_snoc P [] x h p (suc k) d low = absurd (omega arith)
  all_snoc P (y ∷ ys) x h p zero d low = h 0 d (omega arith)
  all_snoc P (y ∷ ys) x h p (suc k) d low = all_snoc P ys x (All-tail P y ys h) p k d (omega arith)

  -- the last one is taken from the rest, and put to the sum
  pub passed : (f : X → ℕ) (old new : List X) (x : X) (a b all : ℕ) → old ≡ new ++ x ∷ [] → b ≡ a + f x → a + total f old ≡ all → b + total f new ≡ all
  passed f old new x a b all e h k = let t = ap (total f) e in let s = total_append f new (x ∷ []) in omega arith

  pub first_passed : (f : X → ℕ) (old new : List X) (x : X) (b : ℕ) → old ≡ new ++ x ∷ [] → b ≡ f x → b + total f new ≡ total f old
  first_passed f old new x b e h = let t = ap (total f) e in let s = total_append f new (x ∷ []) in omega arith

  pub one_shorter : (old new : List X) (x : X) → old ≡ new ++ x ∷ [] → length new + 1 ≡ length old
  one_shorter old new x e = let t = ap length e in let s = length-append new (x ∷ []) in omega arith

  pub fewer : (f : X → ℕ) (old new : List X) (x : X) (all : ℕ) → old ≡ new ++ x ∷ [] → total f old ≤ all → total f new ≤ all
  fewer f old new x all e h = let t = ap (total f) e in let s = total_append f new (x ∷ []) in omega arith

  pub counted : (f : X → ℕ) (old new : List X) (x : X) (all : ℕ) → old ≡ new ++ x ∷ [] → total f old ≤ all → 0 < f x → 0 < all
  counted f old new x all e h k = let t = ap (total f) e in let s = total_append f new (x ∷ []) in omega arith

  pub put_back : (P : X → Type 0) (old new : List X) (x : X) → old ≡ new ++ x ∷ [] → All P new → P x → All P old
  put_back P old new x e h p = subst (All P) (sym e) (all_snoc P new x h p)

  pub only : (Q : X → Type 0) (v : X) → Q v → (i : ℕ) (u : X) → get_elem? (v ∷ []) i ≡ some u → Q u
  only Q v h zero u e = subst Q (some-injective v u e) h
  only Q v h (suc i) u e = absurd (some-ne-none u (sym e))

  nobody : (parts f : X → ℕ) (l : List X) → total parts l ≡ 0 → ((i : ℕ) (u : X) → get_elem? l i ≡ some u → parts u ≡ 0 → f u ≡ 0) → total f l ≡ 0
  nobody parts f [] e h = refl
  nobody parts f (x ∷ xs) e h = let one = h 0 x refl (omega arith) in let rest = nobody parts f xs (omega arith) (λ i u a. h (suc i) u a) in omega arith

  -- the seat that stands for all has every view
  pub alone : (parts f : X → ℕ) (l : List X) (id : ℕ) (v : X) → get_elem? l id ≡ some v → total parts l ≡ parts v → ((i : ℕ) (u : X) → get_elem? l i ≡ some u → parts u ≡ 0 → f u ≡ 0) → total f l ≡ f v
  alone parts f [] id v at e h = absurd (some-ne-none v (sym at))
  alone parts f (x ∷ xs) zero v at e h = let is : x ≡ v = some-injective x v at in let p : parts x ≡ parts v = ap parts is in let q : f x ≡ f v = ap f is in
      let rest = nobody parts f xs (omega arith) (λ i u a. h (suc i) u a) in omega arith
  alone parts f (x ∷ xs) (suc id) v at e h = let low = le_total parts xs id v at in let none = h 0 x refl (omega arith) in
      let rest = alone parts f xs id v at (omega arith) (λ i u a. h (suc i) u a) in omega arith
