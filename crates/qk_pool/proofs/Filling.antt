-- Writing an answer into its slot.
use Rattle.std.proofs.Common.{◌≡◌, ℕ, zero, suc, ◌+◌, ◌<◌, ◌≢◌, List, [], ◌∷◌, ◌++◌, length, get_or, set, sym, refl, subst, get_or-set_same, get_or-set_other, arith, Option, Some, None, IfSome, IsSome, ◌⊎◌, inl, inr, ⊎_elim}
use mathlib.Core.Logic.{dite}
use native.Mathlib.Decide.{ℕ_discrete}
use Rattle.qk_pool.specs.Slots.{AreRight, InPlace, IsFilled}
use Rattle.qk_totals.specs.Totals.{times}
use Rattle.qk_pool.specs.declared.worker.Found.{Found}
use Rattle.qk_pool.specs.Workers.{found_numbers}
use Rattle.qk_pool.proofs.Counts.{other_found}

module _ {A : Type 0} (right : ℕ → A → Type 0) where
  pub right_set : (slots : List (Option A)) (k : ℕ) (a : A) → k < length slots → right k a → AreRight right slots → AreRight right (set slots k (Some a))
  right_set slots k a low is h n = dite (ℕ_discrete k n)
      (λ e. subst (λ m. IfSome (get_or (set slots k (Some a)) m None) (λ b. right m b)) e (subst (λ o. IfSome o (λ b. right k b)) (sym (get_or-set_same slots k (Some a) None low)) is))
      (λ ne. subst (λ o. IfSome o (λ b. right n b)) (sym (get_or-set_other slots k n (Some a) None (λ e. ne (sym e)))) (h n))

  pub right_none : (slots : List (Option A)) (k : ℕ) → k < length slots → AreRight right slots → AreRight right (set slots k None)
  right_none slots k low h n = dite (ℕ_discrete k n)
      (λ e. subst (λ m. IfSome (get_or (set slots k None) m None) (λ b. right m b)) e (subst (λ o. IfSome o (λ b. right k b)) (sym (get_or-set_same slots k None None low)) tt))
      (λ ne. subst (λ o. IfSome o (λ b. right n b)) (sym (get_or-set_other slots k n None None (λ e. ne (sym e)))) (h n))

  pub in_place_snoc : (k n : ℕ) (xs : List A) (a : A) → InPlace right k xs → n ≡ k + length xs → right n a → InPlace right k (xs ++ a ∷ [])
  in_place_snoc k n [] a h e r = let is : n ≡ k = omega arith in (subst (λ m. right m a) is r, tt)
  in_place_snoc k n (x ∷ xs) a h e r = let is : n ≡ suc k + length xs = omega arith in (h.0, in_place_snoc (suc k) n xs a h.1 is r)

module _ {A : Type 0} where
  pub filled_here : (slots : List (Option A)) (k : ℕ) (a : A) → k < length slots → IsFilled (set slots k (Some a)) k
  filled_here slots k a low = subst IsSome (sym (get_or-set_same slots k (Some a) None low)) refl

  pub filled_past : (slots : List (Option A)) (k n : ℕ) (o : Option A) → n ≢ k → IsFilled slots n → IsFilled (set slots k o) n
  filled_past slots k n o ne h = subst IsSome (sym (get_or-set_other slots k n o None ne)) h

  pub filled_stays : (slots : List (Option A)) (k n : ℕ) (a : A) → k < length slots → IsFilled slots n → IsFilled (set slots k (Some a)) n
  filled_stays slots k n a low h = dite (ℕ_discrete k n)
      (λ e. subst (IsFilled (set slots k (Some a))) e (filled_here slots k a low))
      (λ ne. filled_past slots k n (Some a) (λ e. ne (sym e)) h)

  -- what has no answer in its slot is still to come
  pub still_to_come : (n : ℕ) (old new : List (Option A)) (all rest : List (Found A)) (f : Found A) → all ≡ rest ++ f ∷ [] → ((m : ℕ) → IsFilled old m → IsFilled new m) → IsFilled new f.number
      → (IsFilled old n) ⊎ (0 < times n (found_numbers all)) → (IsFilled new n) ⊎ (0 < times n (found_numbers rest))
  still_to_come n old new all rest f is stays here h = dite (ℕ_discrete f.number n)
      (λ e. inl (subst (IsFilled new) e here))
      (λ ne. ⊎_elim (λ (a : IsFilled old n). inl (stays n a)) (λ (a : 0 < times n (found_numbers all)). inr (other_found n all rest f is ne a)) h)

-- slots without an answer
pub right_snoc : {A : Type 0} (right : ℕ → A → Type 0) (slots : List (Option A)) → AreRight right slots → AreRight right (slots ++ None ∷ [])
right_snoc right [] h zero = tt
right_snoc right [] h (suc n) = tt
right_snoc right (x ∷ xs) h zero = h zero
right_snoc right (x ∷ xs) h (suc n) = right_snoc (λ m. right (suc m)) xs (λ m. h (suc m)) n
