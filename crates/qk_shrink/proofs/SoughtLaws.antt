-- Laws of the search by number.
use Rattle.std.proofs.Common.{◌≡◌, ◌∙◌, ℕ, zero, suc, ◌-◌, ◌≤◌, ◌<◌, List, [], ◌∷◌, ◌++◌, map, length, get_or, Some, slice_get, refl, sym, ap, arith}
use Rattle.qk_shrink.specs.Sought.{sought, map_sought, or_past}
use Rattle.qk_shrink.specs.declared.sought.Sought.{Sought}
use Rattle.qk_shrink.specs.declared.sought.Sought.TheVariants.{Here, Past}

pub sought_here : {X : Type 0} (xs : List X) (k : ℕ) (d : X) → k < length xs → sought xs k ≡ Here (get_or xs k d)
sought_here [] k d h = absurd (omega arith)
sought_here (x ∷ xs) zero d h = refl
sought_here (x ∷ xs) (suc k) d h = sought_here xs k d (omega arith)

pub sought_past : {X : Type 0} (xs : List X) (k : ℕ) → length xs ≤ k → sought xs k ≡ Past (k - length xs)
sought_past [] k h = ap Past (omega arith)
sought_past (x ∷ xs) zero h = absurd (omega arith)
sought_past (x ∷ xs) (suc k) h = sought_past xs k (omega arith) ∙ ap Past (omega arith)

pub sought_append : {X : Type 0} (xs ys : List X) (k : ℕ) → sought (xs ++ ys) k ≡ or_past (sought xs k) (sought ys)
sought_append [] ys k = refl
sought_append (x ∷ xs) ys zero = refl
sought_append (x ∷ xs) ys (suc k) = sought_append xs ys k

pub sought_map : {X Y : Type 0} (f : X → Y) (xs : List X) (k : ℕ) → sought (map f xs) k ≡ map_sought f (sought xs k)
sought_map f [] k = refl
sought_map f (x ∷ xs) zero = refl
sought_map f (x ∷ xs) (suc k) = sought_map f xs k

-- what is found is the member of that number
pub found : {X : Type 0} (xs : List X) (k : ℕ) (x : X) → sought xs k ≡ Here x → slice_get xs k ≡ Some x
found [] k x h = cc
found (y ∷ xs) zero x h = cc
found (y ∷ xs) (suc k) x h = found xs k x h

-- a number below the length is not past the end
pub not_past : {X : Type 0} (xs : List X) (k j : ℕ) → k < length xs → sought xs k ≡ Past j → ⊥
not_past [] k j h e = omega arith
not_past (x ∷ xs) zero j h e = cc
not_past (x ∷ xs) (suc k) j h e = not_past xs k j (omega arith) e

-- what is found among the members is found among what f makes of them
pub mapped : {X Y : Type 0} (f : X → Y) (xs : List X) (k : ℕ) (s : Sought X) → s ≡ sought xs k → map_sought f s ≡ sought (map f xs) k
mapped f xs k s h = ap (map_sought f) h ∙ sym (sought_map f xs k)

-- past the first list the search goes on in the second
pub past_first : {X : Type 0} (xs ys : List X) (k left : ℕ) → Past left ≡ sought xs k → sought ys left ≡ sought (xs ++ ys) k
past_first xs ys k left h = ap (λ s. or_past s (sought ys)) h ∙ sym (sought_append xs ys k)

-- what the first list has is found
pub in_first : {X : Type 0} (xs ys : List X) (k : ℕ) (x : X) → Here x ≡ sought xs k → Here x ≡ sought (xs ++ ys) k
in_first xs ys k x h = ap (λ s. or_past s (sought ys)) h ∙ sym (sought_append xs ys k)

less : (k : ℕ) → suc k - 1 ≡ k
less k = omega arith

-- behind the first member the number is one less
pub one_less : {X Y : Type 0} (f : X → Y) (x : X) (xs : List X) (k : ℕ) → (k ≡ 0 → ⊥) → sought (map f xs) (k - 1) ≡ sought (map f (x ∷ xs)) k
one_less f x xs zero h = absurd (h refl)
one_less f x xs (suc k) h = ap (sought (map f xs)) (less k)
