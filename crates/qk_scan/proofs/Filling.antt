-- Writing an answer into its slot.
use Rattle.std.proofs.Common.{◌≡◌, ℕ, zero, suc, ◌+◌, ◌<◌, ◌≢◌, List, [], ◌∷◌, length, get_or, set, sym, refl, ap, ◌∙◌, subst, get_or-set_same, get_or-set_other, arith, Option, Some, None, IfSome, IsSome, Bool, true, false, cond, eqb, ne_eqb, ◌++◌, ◌⊎◌, inl, inr, ⊎_elim}
use mathlib.Core.Logic.{dite}
use native.Mathlib.Decide.{ℕ_discrete}
use Rattle.qk_scan.specs.declared.found.Found.{Found}
use Rattle.qk_scan.specs.Work.{answered}
use Rattle.qk_scan.specs.Slots.{AreRight, IsFilled}

module _ {A : Type 0} (answer : ℕ → A) where
  pub right_set : (slots : List (Option A)) (k : ℕ) (a : A) → k < length slots → a ≡ answer k → AreRight answer slots → AreRight answer (set slots k (Some a))
  right_set slots k a low is h n = dite (ℕ_discrete k n)
      (λ e. subst (λ m. IfSome (get_or (set slots k (Some a)) m None) (λ b. b ≡ answer m)) e (subst (λ o. IfSome o (λ b. b ≡ answer k)) (sym (get_or-set_same slots k (Some a) None low)) is))
      (λ ne. subst (λ o. IfSome o (λ b. b ≡ answer n)) (sym (get_or-set_other slots k n (Some a) None (λ e. ne (sym e)))) (h n))

  pub right_none : (slots : List (Option A)) (k : ℕ) → k < length slots → AreRight answer slots → AreRight answer (set slots k None)
  right_none slots k low h n = dite (ℕ_discrete k n)
      (λ e. subst (λ m. IfSome (get_or (set slots k None) m None) (λ b. b ≡ answer m)) e (subst (λ o. IfSome o (λ b. b ≡ answer k)) (sym (get_or-set_same slots k None None low)) tt))
      (λ ne. subst (λ o. IfSome o (λ b. b ≡ answer n)) (sym (get_or-set_other slots k n None None (λ e. ne (sym e)))) (h n))

module _ {A : Type 0} where
  pub filled_here : (slots : List (Option A)) (k : ℕ) (a : A) → k < length slots → IsFilled (set slots k (Some a)) k
  filled_here slots k a low = subst IsSome (sym (get_or-set_same slots k (Some a) None low)) refl

  pub filled_stays : (slots : List (Option A)) (k n : ℕ) (a : A) → k < length slots → IsFilled slots n → IsFilled (set slots k (Some a)) n
  filled_stays slots k n a low h = dite (ℕ_discrete k n)
      (λ e. subst (IsFilled (set slots k (Some a))) e (filled_here slots k a low))
      (λ ne. subst IsSome (sym (get_or-set_other slots k n (Some a) None (λ e. ne (sym e)))) h)

  pub filled_past : (slots : List (Option A)) (k n : ℕ) (o : Option A) → n ≢ k → IsFilled slots n → IsFilled (set slots k o) n
  filled_past slots k n o ne h = subst IsSome (sym (get_or-set_other slots k n o None ne)) h

pub not_true : (b : Bool) → (b ≡ true → ⊥) → b ≡ false
not_true true h = absurd (h refl)
not_true false h = refl

module _ {A : Type 0} where
  answered_snoc : (n : ℕ) (xs : List (Found A)) (f : Found A) → answered n (xs ++ f ∷ []) ≡ answered n xs + cond (eqb f.number n) 1 0
  answered_snoc n [] f = omega arith
  answered_snoc n (x ∷ xs) f = let r = answered_snoc n xs f in omega arith

  -- what is not in the slots is still to come
  pub still_to_come : (n k : ℕ) (old new : List (Option A)) (all rest : List (Found A)) (f : Found A) → all ≡ rest ++ f ∷ [] → f.number ≡ k → (IsFilled old n → IsFilled new n) → (n ≡ k → IsFilled new n)
      → (IsFilled old n) ⊎ (0 < answered n all) → (IsFilled new n) ⊎ (0 < answered n rest)
  still_to_come n k old new all rest f e is stays here h = dite (ℕ_discrete n k) (λ s. inl (here s))
      (λ ne. ⊎_elim (λ (a : IsFilled old n). inl (stays a)) (λ (a : 0 < answered n all). let t = ap (answered n) e ∙ answered_snoc n rest f in
      let z : ◌≡◌ {A = ℕ} (cond (eqb f.number n) 1 0) 0 = ap (λ b. cond b 1 0) (ne_eqb f.number n (λ q. ne (sym q ∙ is))) in inr (omega arith)) h)

-- slots without an answer
pub right_snoc : {A : Type 0} (answer : ℕ → A) (slots : List (Option A)) → AreRight answer slots → AreRight answer (slots ++ None ∷ [])
right_snoc answer [] h zero = tt
right_snoc answer [] h (suc n) = tt
right_snoc answer (x ∷ xs) h zero = h zero
right_snoc answer (x ∷ xs) h (suc n) = right_snoc (λ m. answer (suc m)) xs (λ m. h (suc m)) n
