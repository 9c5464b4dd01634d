-- Lists of which each item meets a fact.
use Rattle.std.proofs.Common.{ℕ, zero, suc, List, [], ◌∷◌, ◌++◌, take, drop}
use Rattle.qk_pool.specs.Each.{Each}

module _ {X : Type 0} (P : X → Type 0) where
  pub each_take : (n : ℕ) (xs : List X) → Each P xs → Each P (take n xs)
  each_take zero xs h = tt
  each_take (suc n) [] h = tt
  each_take (suc n) (x ∷ xs) h = (h.0, each_take n xs h.1)

  pub each_drop : (n : ℕ) (xs : List X) → Each P xs → Each P (drop n xs)
  each_drop zero xs h = h
  each_drop (suc n) [] h = tt
  each_drop (suc n) (x ∷ xs) h = each_drop n xs h.1

  pub each_append : (xs ys : List X) → Each P xs → Each P ys → Each P (xs ++ ys)
  each_append [] ys h k = k
  each_append (x ∷ xs) ys h k = (h.0, each_append xs ys h.1 k)

  pub each_last : (xs : List X) (x : X) → Each P (xs ++ x ∷ []) → P x
  each_last [] x h = h.0
  each_last (y ∷ ys) x h = each_last ys x h.1

  pub each_init : (xs : List X) (x : X) → Each P (xs ++ x ∷ []) → Each P xs
  each_init [] x h = tt
  each_init (y ∷ ys) x h = (h.0, each_init ys x h.1)

pub each_map : {X : Type 0} (P Q : X → Type 0) → ((x : X) → P x → Q x) → (xs : List X) → Each P xs → Each Q xs
each_map P Q f [] h = tt
each_map P Q f (x ∷ xs) h = (f x h.0, each_map P Q f xs h.1)
