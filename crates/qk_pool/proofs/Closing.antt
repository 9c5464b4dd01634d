-- The relay at its end, and lists of ends.
use Rattle.std.proofs.Common.{◌≡◌, ℕ, zero, Bool, false, suc, ◌+◌, ◌<◌, ◌≤◌, true, ◌&&◌, nat_le, List, [], ◌∷◌, ◌++◌, length, length-append, replicate, All, sym, refl, ap, ◌∙◌, subst, append_assoc, append-nil, le-leb, leb-true, true≢false, arith}
use mathlib.Core.Logic.{dite}
use native.Mathlib.Decide.{dec_le}
use Rattle.std.proofs.lemmas.List.Elements.{All-tail}
use Rattle.qk_totals.specs.Totals.{total}
use Rattle.qk_totals.proofs.Totals.{one_same}
use Rattle.qk_pool.specs.declared.taken.Taken.{Taken}
use Rattle.qk_pool.specs.declared.taken.Taken.TheVariants.{Job, End}
use Rattle.qk_pool.specs.declared.view.RelayView.{RelayView}
use Rattle.qk_pool.specs.Numbers.{numbers_of, is_end, ends_of, rises, Below}
use Rattle.qk_base.specs.Growing.{Growing}
use Rattle.qk_pool.specs.Views.{with_taken}
use Rattle.qk_pool.specs.Steps.{Weighed}
use Rattle.qk_pool.proofs.Turns.{numbers_append}

ends_snoc : (k : ℕ) → replicate k End ++ End ∷ [] ≡ replicate (suc k) End
ends_snoc zero = refl
ends_snoc (suc k) = ap (λ l. End ∷ l) (ends_snoc k)

length_ends : (k : ℕ) → length (replicate k End) ≡ k
length_ends zero = refl
length_ends (suc k) = ap suc (length_ends k)

-- there is a place for one more end
pub room_left : (put old : List Taken) (k room takers : ℕ) → put ≡ old ++ replicate k End → length old ≤ room → k < takers → length put < room + takers
room_left put old k room takers e low less = let a = ap length e in let b = length-append old (replicate k End) in let d = length_ends k in omega arith

pub more_ends : (xs : List Taken) (k : ℕ) → (xs ++ replicate k End) ++ End ∷ [] ≡ xs ++ replicate (k + 1) End
more_ends xs k = let is : suc k ≡ k + 1 = omega arith in append_assoc xs (replicate k End) (End ∷ []) ∙ ap (λ l. xs ++ l) (ends_snoc k ∙ ap (λ n. replicate n End) is)

module _ {X : Type 0} where
  pub total_ones : (f : X → ℕ) (xs : List X) → All (λ x. f x ≡ 1) xs → total f xs ≡ length xs
  total_ones f [] h = refl
  total_ones f (x ∷ xs) h = let one = h 0 x (omega arith) in let r = total_ones f xs (All-tail (λ y. f y ≡ 1) x xs h) in omega arith

  pub all_first : (P Q : X → Type 0) (xs : List X) → All (λ x. P x × Q x) xs → All P xs
  all_first P Q xs h k d low = (h k d low).0

  pub all_second : (P Q : X → Type 0) (xs : List X) → All (λ x. P x × Q x) xs → All Q xs
  all_second P Q xs h k d low = (h k d low).1

  total_empty : (f : X → ℕ) (xs : List X) → length xs ≡ 0 → total f xs ≡ 0
  total_empty f [] e = refl
  total_empty f (x ∷ xs) e = absurd (omega arith)

-- where as many ends were taken as were put, nothing is left
pub settled : (v : RelayView) (items : List Taken) (takers : ℕ) → Weighed v items → ends_of v.put ≡ takers → ends_of v.taken ≡ takers → 0 < takers → (h : Taken → ℕ) → total h v.put ≡ total h v.taken
settled v items takers w a b some h =
    let e = w.0 is_end in let n = w.1 (omega arith) in let z = total_empty h items (omega arith) in let s = w.0 h in omega arith

and_true : (a b : Bool) → (a && b) ≡ true → (a ≡ true) × (b ≡ true)
and_true true b h = (refl, h)
and_true false b h = absurd (true≢false (sym h))

both_true : (a b : Bool) → a ≡ true → b ≡ true → (a && b) ≡ true
both_true true b h k = k
both_true false b h k = absurd (true≢false (sym h))

below_head : (n m : ℕ) (ms : List ℕ) → Below n (m ∷ ms) → m < n
below_head n m ms b = dite (dec_le n m) (λ h. let z = b m h in let o = one_same m m refl in absurd (omega arith)) (λ h. omega arith)

below_tail : (n m : ℕ) (ms : List ℕ) → Below n (m ∷ ms) → Below n ms
below_tail n m ms b k l = let z = b k l in omega arith

-- a number above all others joins at the end
pub rises_more : (low n : ℕ) (ms : List ℕ) → rises low ms ≡ true → Below n ms → low ≤ n → rises low (ms ++ n ∷ []) ≡ true
rises_more low n [] h b le = both_true (nat_le low n) true (le-leb low n le) refl
rises_more low n (m ∷ ms) h b le = let g = and_true (nat_le low m) (rises (suc m) ms) h in
    let mine : m < n = below_head n m ms b in
    both_true (nat_le low m) (rises (suc m) (ms ++ n ∷ [])) g.0 (rises_more (suc m) n ms g.1 (λ k l. below_tail n m ms b k l) (omega arith))

-- as many numbers rise below n as n at most
pub few_rise : (low n : ℕ) (ms : List ℕ) → rises low ms ≡ true → Below n ms → low ≤ n → low + length ms ≤ n
few_rise low n [] h b le = omega arith
few_rise low n (m ∷ ms) h b le = let g = and_true (nat_le low m) (rises (suc m) ms) h in
    let mine : m < n = below_head n m ms b in let l : low ≤ m = leb-true low m g.0 in
    let r = few_rise (suc m) n ms g.1 (λ k q. below_tail n m ms b k q) (omega arith) in omega arith

-- the list of a taker after a job, and after an end
pub job_list : (v w : RelayView) (n : ℕ) (i : Growing ℕ) (ns ms : List ℕ) → w ≡ with_taken v (Job n i) → ns ≡ numbers_of v.taken → ms ≡ ns ++ n ∷ [] → ms ≡ numbers_of w.taken
job_list v w n i ns ms is was new = new ∙ ap (λ l. l ++ n ∷ []) was ∙ sym (numbers_append v.taken (Job n i ∷ [])) ∙ sym (ap (λ u. numbers_of u.taken) is)

pub end_list : (v w : RelayView) (ns : List ℕ) → w ≡ with_taken v End → ns ≡ numbers_of v.taken → ns ≡ numbers_of w.taken
end_list v w ns is was = was ∙ sym (append-nil (numbers_of v.taken)) ∙ sym (numbers_append v.taken (End ∷ [])) ∙ sym (ap (λ u. numbers_of u.taken) is)

pub job_rises : (n : ℕ) (ns ms ts : List ℕ) → rises 0 ns ≡ true → ns ≡ ts → Below n ts → ms ≡ ns ++ n ∷ [] → rises 0 ms ≡ true
job_rises n ns ms ts r was b new = ap (rises 0) new ∙ rises_more 0 n ns r (subst (Below n) (sym was) b) (omega arith)

pub job_room : (n spare : ℕ) (ns ts : List ℕ) → rises 0 ns ≡ true → ns ≡ ts → Below n ts → n < 256 → 256 ≤ length ns + spare → 0 < spare
job_room n spare ns ts r was b few room = let f = few_rise 0 n ns r (subst (Below n) (sym was) b) (omega arith) in omega arith
