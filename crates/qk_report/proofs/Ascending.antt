-- Two ascending lists in which each item stands equally often are one.
use Rattle.std.proofs.Common.{◌≡◌, ◌∙◌, ◌+◌, ◌<◌, ◌≤◌, ℕ, suc, Bool, true, false, cond, List, [], ◌∷◌, ap, arith, get_or, length, map, refl, subst, sym, true≢false}
use Rattle.std.proofs.lemmas.Cmp.{tied_itself, upto}
use Rattle.std.specs.Cmp.{IsTotalOrder}
use Rattle.std.specs.List.{AllByRecursion, count_by}
use Rattle.std.specs.List.Sorted.{IsSortedBy}
use Rattle.std.specs.Ordering.{is_eq, is_gt, is_lt, ordering_reverse}
use Rattle.std.specs.declared.cmp.Ordering.{Ordering}
use Rattle.std.specs.declared.cmp.Ordering.TheVariants.{Less, Equal, Greater}
use Rattle.qk_report.proofs.KeyCounts.{count_cons}

pub all_weaker : {X : Type 0} {P Q : X → Type 0} → ((x : X) → P x → Q x) → (xs : List X) → AllByRecursion P xs → AllByRecursion Q xs
all_weaker h [] all = tt
all_weaker h (x ∷ xs) all = (h x all.0, all_weaker h xs all.1)

not_some : (n : ℕ) → 0 ≡ n + 1 → ⊥
not_some n e = absurd (omega arith)

module _ {K : Type 0} {R : K → K → Ordering} (o : IsTotalOrder R) (tied : (x y : K) → R x y ≡ Equal → x ≡ y) where
  -- how often an item stands in a list
  abbrev pub occ : K → List K → ℕ
  occ x xs = count_by (λ y. is_eq (R x y)) xs

  abbrev pub Asc : List K → Type 0
  Asc [] = Unit {0}
  Asc (x ∷ xs) = AllByRecursion (λ y. is_gt (R x y) ≡ false) xs × Asc xs

  after : (x y z : K) (r : Ordering) → R y z ≡ r → R x y ≡ Less → is_gt r ≡ false → is_eq (R x z) ≡ false
  after x y z Less e less h = ap is_eq (o.trans x y z less e)
  after x y z Equal e less h = ap is_eq (ap (R x) (sym (tied y z e)) ∙ less)
  after x y z Greater e less h = absurd (true≢false h)

  absent : (x y : K) (zs : List K) → R x y ≡ Less → AllByRecursion (λ z. is_gt (R y z) ≡ false) zs → occ x zs ≡ 0
  absent x y [] less all = refl
  absent x y (z ∷ zs) less all = count_cons (λ y. is_eq (R x y)) z zs ∙ (λ i. absent x y zs less all.1 i + cond (after x y z (R y z) refl less all.0 i) 1 0)

  absent_all : (x y : K) (ys : List K) → R x y ≡ Less → AllByRecursion (λ z. is_gt (R y z) ≡ false) ys → occ x (y ∷ ys) ≡ 0
  absent_all x y ys less all = count_cons (λ y. is_eq (R x y)) y ys ∙ (λ i. absent x y ys less all i + cond (is_eq (less i)) 1 0)

  present : (x : K) (xs : List K) → occ x (x ∷ xs) ≡ occ x xs + 1
  present x xs = count_cons (λ y. is_eq (R x y)) x xs ∙ ap (λ r. occ x xs + cond (is_eq r) 1 0) (tied_itself o x)

  same_rest : (n m c : ℕ) → n + c ≡ m + c → n ≡ m
  same_rest n m c e = omega arith

  pub unique : (xs ys : List K) → Asc xs → Asc ys → ((z : K) → occ z xs ≡ occ z ys) → xs ≡ ys
  unique [] [] a b same = refl
  unique [] (y ∷ ys) a b same = absurd (not_some (occ y ys) (same y ∙ present y ys))
  unique (x ∷ xs) [] a b same = absurd (not_some (occ x xs) (sym (same x) ∙ present x xs))
  unique (x ∷ xs) (y ∷ ys) a b same = by (R x y) refl (λ rests. unique xs ys a.1 b.1 rests)
    where
      by : (r : Ordering) → R x y ≡ r → (((z : K) → occ z xs ≡ occ z ys) → xs ≡ ys) → x ∷ xs ≡ y ∷ ys
      by Less e rest = absurd (not_some (occ x xs) (sym (same x ∙ absent_all x y ys e b.0) ∙ present x xs))
      by Greater e rest = absurd (not_some (occ y ys) (sym (sym (same y) ∙ absent_all y x xs (o.antisymm y x ∙ ap ordering_reverse e) a.0) ∙ present y ys))
      by Equal e rest =
          let is : x ≡ y = tied x y e in
          let tails : xs ≡ ys = rest (λ z. same_rest (occ z xs) (occ z ys) (cond (is_eq (R z y)) 1 0)
          (ap (λ t. occ z xs + cond (is_eq (R z t)) 1 0) (sym is) ∙ sym (count_cons (λ y. is_eq (R z y)) x xs) ∙ same z ∙ count_cons (λ y. is_eq (R z y)) y ys)) in
          λ i. is i ∷ tails i

  not_greater : (x y : K) (r : Ordering) → R y x ≡ r → is_lt r ≡ false → is_gt (R x y) ≡ false
  not_greater x y Less e h = absurd (true≢false h)
  not_greater x y Equal e h = ap is_gt (o.antisymm x y ∙ ap ordering_reverse e)
  not_greater x y Greater e h = ap is_gt (o.antisymm x y ∙ ap ordering_reverse e)

  -- a list that is sorted by what f reads
  module _ {X : Type 0} (f : X → K) where
    next : (n : ℕ) → suc n + 1 ≡ suc (n + 1)
    next n = omega arith

    tail : (x : X) (xs : List X) → IsSortedBy (λ a b. is_lt (R (f a) (f b))) (x ∷ xs) → IsSortedBy (λ a b. is_lt (R (f a) (f b))) xs
    tail x xs s = λ k d lo hi. subst (λ n. is_lt (R (f (get_or (x ∷ xs) n d)) (f (get_or xs k d))) ≡ false) (next k) (s (suc k) d (omega arith) (omega arith))

    pub asc_of : (xs : List X) → IsSortedBy (λ a b. is_lt (R (f a) (f b))) xs → Asc (map f xs)
    asc_of [] s = tt
    asc_of (x ∷ []) s = (tt, tt)
    asc_of (x ∷ y ∷ zs) s =
        let rest : Asc (map f (y ∷ zs)) = asc_of (y ∷ zs) (tail x (y ∷ zs) s) in
        let here : is_gt (R (f x) (f y)) ≡ false = not_greater (f x) (f y) (R (f y) (f x)) refl (s 0 x (omega arith) (omega arith)) in
        ((here, all_weaker (λ z h. upto o (f x) (f y) z here h) (map f zs) rest.0), rest)
