-- Crossed lists and tuples: how many there are, and each by its number.
use Rattle.std.proofs.Common.{◌≡◌, ◌∙◌, inl, inr, ℕ, zero, suc, ◌+◌, ◌*◌, ◌/◌, ◌%◌, ◌<◌, ◌^◌, List, [], ◌∷◌, map, length, get_or, sym, ap, arith}
use Rattle.std.proofs.lemmas.Bool.{cases_lt}
use Rattle.std.proofs.lemmas.List.{length-append, length-map, get_or_append_left, get_or-append-add, get_or-map}
use Rattle.std.proofs.lemmas.Nat.{div-add-mod', div_below, mod_below}
use Rattle.std.proofs.Math.Nat.{div-le_self}
use Rattle.qk_series.specs.Members.{saturated}
use Rattle.qk_series.specs.Series.{crossed}

pub count_crossed : {X Y Z : Type 0} (f : X → Y → Z) (xs : List X) (ys : List Y) → length (crossed f xs ys) ≡ length xs * length ys
count_crossed f [] ys = omega arith
count_crossed f (x ∷ xs) ys =
    length-append (map (f x) ys) (crossed f xs ys) ∙ (λ i. length-map ys (f x) i + count_crossed f xs ys i) ∙ omega arith

-- the member of a row and a column
at_place : {X Y Z : Type 0} (f : X → Y → Z) (xs : List X) (ys : List Y) (i j : ℕ) (x : X) (y : Y) (z : Z) → i < length xs → j < length ys
    → get_or (crossed f xs ys) (i * length ys + j) z ≡ f (get_or xs i x) (get_or ys j y)
at_place f [] ys i j x y z h k = absurd (omega (arith, h))
at_place f (x' ∷ xs) ys zero j x y z h k =
    ap (λ n. get_or (crossed f (x' ∷ xs) ys) n z) (omega arith)
    ∙ get_or_append_left (map (f x') ys) (crossed f xs ys) z j (omega (arith, k, length-map ys (f x'))) ∙ get_or-map (f x') ys j y z k
at_place f (x' ∷ xs) ys (suc i) j x y z h k =
    ap (λ n. get_or (crossed f (x' ∷ xs) ys) n z) (omega (arith, length-map ys (f x')))
    ∙ get_or-append-add (map (f x') ys) (crossed f xs ys) (i * length ys + j) z
    ∙ at_place f xs ys i j x y z (omega (arith, h)) k

no_factor : (m n k : ℕ) → k < saturated (m * n) → 0 < m
no_factor zero n k h = absurd (omega (arith, h))
no_factor (suc m) n k h = omega arith

-- a number below the limit is divided by a count that stops there as by the count itself
pub row_of : (k m n : ℕ) → k < saturated (m * n) → (k / saturated n < saturated m) × (k % saturated n < saturated n) × (k ≡ k / saturated n * n + k % saturated n)
row_of k m zero h = absurd (omega (arith, h))
row_of k m (suc n) h = elim (cases_lt (suc n) (2 ^ 40 + 1)) [
  | inl less ↦
      let is : saturated (suc n) ≡ suc n = omega (arith, less) in
      rw is (omega (arith, h, div-le_self k (suc n), div_below k (suc n) m (omega arith) (omega (arith, h))), mod_below k (suc n) (omega arith), sym (div-add-mod' k (suc n)))
  | inr more ↦
      let is : saturated (suc n) ≡ 2 ^ 40 = omega (arith, more) in
      let under : k < 2 ^ 40 = omega (arith, h) in
      let none : k / 2 ^ 40 ≡ 0 = omega (arith, under) in
      let all : k ≡ 0 * suc n + k % 2 ^ 40 = omega (arith, under) in
      rw is (omega (arith, h, no_factor m (suc n) k h, none), omega (arith, under), all ∙ ap (λ q. q * suc n + k % 2 ^ 40) (sym none))
]

-- the member of a number
pub crossed_at : {X Y Z : Type 0} (f : X → Y → Z) (xs : List X) (ys : List Y) (k : ℕ) (x : X) (y : Y) (z : Z) → k < saturated (length (crossed f xs ys))
    → get_or (crossed f xs ys) k z ≡ f (get_or xs (k / saturated (length ys)) x) (get_or ys (k % saturated (length ys)) y)
crossed_at f xs ys k x y z h =
    let place = row_of k (length xs) (length ys) (omega (arith, h, count_crossed f xs ys)) in
    ap (λ n. get_or (crossed f xs ys) n z) place.2 ∙ at_place f xs ys (k / saturated (length ys)) (k % saturated (length ys)) x y z (omega (arith, place.0)) (omega (arith, place.1))

pub crossed_row : {X Y Z : Type 0} (f : X → Y → Z) (xs : List X) (ys : List Y) (k : ℕ) → k < saturated (length (crossed f xs ys))
    → (k / saturated (length ys) < saturated (length xs)) × (k % saturated (length ys) < saturated (length ys))
crossed_row f xs ys k h =
    let place = row_of k (length xs) (length ys) (omega (arith, h, count_crossed f xs ys)) in
    (place.0, place.1)
