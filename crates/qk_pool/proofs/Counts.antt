-- How often a number stands among jobs and among answers.
use Rattle.std.proofs.Common.{◌≡◌, ◌≢◌, ℕ, zero, suc, ◌+◌, ◌<◌, ◌≤◌, List, [], ◌∷◌, ◌++◌, replicate, refl, sym, ap, ◌∙◌, subst, append-nil, arith}
use mathlib.Core.Logic.{dite}
use native.Mathlib.Decide.{ℕ_discrete, dec_le}
use Rattle.qk_base.specs.Growing.{Growing}
use Rattle.qk_totals.specs.Totals.{total, times, EachBelow}
use Rattle.qk_totals.proofs.Totals.{total_append, times_append, one_same, one_other}
use Rattle.qk_pool.specs.declared.taken.Taken.{Taken}
use Rattle.qk_pool.specs.declared.taken.Taken.TheVariants.{Job, End}
use Rattle.qk_pool.specs.declared.taker.Taker.{Taker}
use Rattle.qk_pool.specs.declared.worker.Found.{Found}
use Rattle.qk_pool.specs.Tokens.{taken_of}
use Rattle.qk_pool.specs.Numbers.{numbers_of, has_number}
use Rattle.qk_pool.specs.Workers.{found_numbers, weights_of}
use Rattle.qk_pool.proofs.Turns.{numbers_append}

pub counted : (n : ℕ) (xs : List Taken) → times n (numbers_of xs) ≡ total (has_number n) xs
counted n [] = refl
counted n (Job m i ∷ xs) = let r = counted n xs in omega arith
counted n (End ∷ xs) = let r = counted n xs in omega arith

-- the numbers below k, and then k, are the numbers below k + 1
pub each_more : (k : ℕ) (old new : List ℕ) → new ≡ old ++ k ∷ [] → EachBelow k (λ n. times n old) → EachBelow (k + 1) (λ n. times n new)
each_more k old new is each x = dite (ℕ_discrete k x)
    (λ e. let one = one_same k x e in let none = (each x).1 (omega (arith, e)) in ((λ _. omega (arith, sum)), (λ far. absurd (omega (arith, e, far)))))
    (λ ne. let none = one_other k x ne in ((λ low. let r = (each x).0 (below low ne) in omega (arith, sum)), (λ far. let r = (each x).1 (omega (arith, far)) in omega (arith, sum))))
  where
    sum : times x new ≡ times x old + times x (k ∷ [])
    sum = ap (times x) is ∙ times_append x old (k ∷ [])

    below : x < k + 1 → k ≢ x → x < k
    below low ne = omega (arith, low, ne)

pub job_number : (old new : List Taken) (n : ℕ) (i : Growing ℕ) → new ≡ old ++ Job n i ∷ [] → numbers_of new ≡ numbers_of old ++ n ∷ []
job_number old new n i is = ap numbers_of is ∙ numbers_append old (Job n i ∷ [])

pub end_number : (old new : List Taken) → new ≡ old ++ End ∷ [] → numbers_of new ≡ numbers_of old
end_number old new is = ap numbers_of is ∙ numbers_append old (End ∷ []) ∙ append-nil (numbers_of old)

numbers_ended : (xs : List Taken) (k : ℕ) → numbers_of (xs ++ replicate k End) ≡ numbers_of xs
numbers_ended [] zero = refl
numbers_ended [] (suc k) = numbers_ended [] k
numbers_ended (Job n i ∷ xs) k = ap (λ l. n ∷ l) (numbers_ended xs k)
numbers_ended (End ∷ xs) k = numbers_ended xs k

pub each_ended : (count : ℕ) (old new : List Taken) (k : ℕ) → new ≡ old ++ replicate k End → EachBelow count (λ n. times n (numbers_of old)) → EachBelow count (λ n. times n (numbers_of new))
each_ended count old new k is = subst (λ l. EachBelow count (λ n. times n l)) (sym (ap numbers_of is ∙ numbers_ended old k))

-- the same counts of other numbers
pub each_same : (count : ℕ) (f g : ℕ → ℕ) → ((n : ℕ) → g n ≡ f n) → EachBelow count f → EachBelow count g
each_same count f g e each x = ((λ low. e x ∙ (each x).0 low), (λ far. e x ∙ (each x).1 far))

module _ {A : Type 0} where
  found_append : (xs ys : List (Found A)) → found_numbers (xs ++ ys) ≡ found_numbers xs ++ found_numbers ys
  found_append [] ys = refl
  found_append (x ∷ xs) ys = ap (λ l. x.number ∷ l) (found_append xs ys)

  pub found_more : (old new : List (Found A)) (f : Found A) → new ≡ old ++ f ∷ [] → found_numbers new ≡ found_numbers old ++ f.number ∷ []
  found_more old new f is = ap found_numbers is ∙ found_append old (f ∷ [])

  -- one answer moves from one list to another
  pub one_moved : (n : ℕ) (from rest to more : List (Found A)) (f : Found A) (all : ℕ) → from ≡ rest ++ f ∷ [] → more ≡ to ++ f ∷ [] → times n (found_numbers to) + times n (found_numbers from) ≡ all
      → times n (found_numbers more) + times n (found_numbers rest) ≡ all
  one_moved n from rest to more f all a b h =
      let p = ap (times n) (found_more rest from f a) ∙ times_append n (found_numbers rest) (f.number ∷ []) in
      let q = ap (times n) (found_more to more f b) ∙ times_append n (found_numbers to) (f.number ∷ []) in omega arith

  -- the last answer has a number of the list
  last_number : (from rest : List (Found A)) (f : Found A) → from ≡ rest ++ f ∷ [] → 0 < times f.number (found_numbers from)
  last_number from rest f is = let p = ap (times f.number) (found_more rest from f is) ∙ times_append f.number (found_numbers rest) (f.number ∷ []) in let one = one_same f.number f.number refl in omega arith

  -- its number is one of those below the length
  pub is_low : (from rest : List (Found A)) (f : Found A) (k : ℕ) → from ≡ rest ++ f ∷ [] → ((n : ℕ) → k ≤ n → times n (found_numbers from) ≡ 0) → f.number < k
  is_low from rest f k is low = dite (dec_le k f.number) (λ far. let none = low f.number far in let one = last_number from rest f is in absurd (omega arith)) (λ near. omega (arith, near))

  pub fewer_found : (n : ℕ) (from rest : List (Found A)) (f : Found A) → from ≡ rest ++ f ∷ [] → times n (found_numbers from) ≡ 0 → times n (found_numbers rest) ≡ 0
  fewer_found n from rest f is h = let p = ap (times n) (found_more rest from f is) ∙ times_append n (found_numbers rest) (f.number ∷ []) in omega arith

  pub other_found : (n : ℕ) (from rest : List (Found A)) (f : Found A) → from ≡ rest ++ f ∷ [] → f.number ≢ n → 0 < times n (found_numbers from) → 0 < times n (found_numbers rest)
  other_found n from rest f is ne h = let p = ap (times n) (found_more rest from f is) ∙ times_append n (found_numbers rest) (f.number ∷ []) in let z = one_other f.number n ne in omega arith

  -- the answers of one more taker
  pub taker_counts : (n : ℕ) (ts us : List Taker) (t : Taker) (found all : List (Found A)) → us ≡ ts ++ t ∷ [] → found_numbers found ≡ numbers_of (taken_of t) → times n (found_numbers all) ≡ weights_of ts (has_number n)
      → times n (found_numbers all) + times n (found_numbers found) ≡ weights_of us (has_number n)
  taker_counts n ts us t found all is numbers h =
      let s = ap (λ l. weights_of l (has_number n)) is ∙ total_append (λ u. total (has_number n) (taken_of u)) ts (t ∷ []) in
      let f = ap (times n) numbers ∙ counted n (taken_of t) in omega arith
