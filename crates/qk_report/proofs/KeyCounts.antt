-- Counting the keys of a list, one after another.
use Rattle.std.proofs.Common.{◌≡◌, ◌∙◌, ◌+◌, ◌<◌, ◌≤◌, ℕ, Bool, cond, List, [], ◌∷◌, ◌++◌, All, ap, arith, get_or, length, map, min, refl, subst, sym, take}
use Rattle.std.proofs.lemmas.List.{map-append, take_all, take_more}
use Rattle.std.proofs.lemmas.List.Elements.{All-push}
use Rattle.std.proofs.lemmas.List.Sums.{sum_by-append}
use Rattle.std.specs.List.{count_by}
use Rattle.qk_report.specs.Counted.{Key, among, key_eq}

pub count_append : {X : Type 0} (p : X → Bool) (xs ys : List X) → count_by p (xs ++ ys) ≡ count_by p xs + count_by p ys
count_append p xs ys = sum_by-append (λ x. cond (p x) 1 0) xs ys

pub count_cons : {X : Type 0} (p : X → Bool) (x : X) (xs : List X) → count_by p (x ∷ xs) ≡ count_by p xs + cond (p x) 1 0
count_cons p x xs = count_append p (x ∷ []) xs ∙ swapped (cond (p x) 1 0) (count_by p xs)
  where
    swapped : (n m : ℕ) → (0 + n) + m ≡ m + n
    swapped n m = omega arith

pub among_cons : (key one : Key) (keys : List Key) → among key (one ∷ keys) ≡ among key keys + cond (key_eq key one) 1 0
among_cons key one keys = count_cons (key_eq key) one keys

pub among_more : {X : Type 0} (f : X → Key) (key : Key) (xs : List X) (i : ℕ) (x : X) → i < length xs → x ≡ get_or xs i x
    → among key (map f (take (i + 1) xs)) ≡ among key (map f (take i xs)) + among key (f x ∷ [])
among_more f key xs i x within is =
    ap (λ ys. among key (map f ys)) (take_more xs i x within) ∙ ap (among key) (map-append f (take i xs) (get_or xs i x ∷ []))
    ∙ count_append _ (map f (take i xs)) (f (get_or xs i x) ∷ []) ∙ ap (λ y. among key (map f (take i xs)) + among key (f y ∷ [])) (sym is)

pub raised_more : (now n k l m : ℕ) → now ≡ min ((n + k) + l) 18446744073709551615 → m ≡ k + l → now ≡ min (n + m) 18446744073709551615
raised_more now n k l m h e = omega arith

pub all_more : {X : Type 0} (P : X → Type 0) (xs : List X) (i : ℕ) (x : X) → i < length xs → x ≡ get_or xs i x → All P (take i xs) → P x → All P (take (i + 1) xs)
all_more P xs i x within is all here = subst (All P) (sym (take_more xs i x within)) (All-push P (take i xs) (get_or xs i x) all (subst P is here))

pub all_of_whole : {X : Type 0} (P : X → Type 0) (xs : List X) (i : ℕ) → length xs ≤ i → All P (take i xs) → All P xs
all_of_whole P xs i done all = subst (All P) (take_all i xs done) all
