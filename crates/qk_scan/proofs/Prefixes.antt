-- The prefix to the first hit, one answer at a time.
use Rattle.std.proofs.Common.{◌≡◌, ℕ, suc, ◌+◌, ◌-◌, ◌<◌, Bool, true, false, cond, List, [], ◌∷◌, ◌++◌, sym, ap, ◌∙◌, append_assoc, arith}
use Rattle.qk_scan.specs.Prefix.{prefix_to_hit, answers_from}

module _ {A : Type 0} (answer : ℕ → A) (hits : A → Bool) where
  opened : (at total : ℕ) → at < total → answers_from answer at (total - at) ≡ answer at ∷ answers_from answer (at + 1) (total - (at + 1))
  opened at total h = let e : total - at ≡ suc (total - (at + 1)) = omega arith in let f : suc at ≡ at + 1 = omega arith in
      ap (answers_from answer at) e ∙ ap (λ n. answer at ∷ answers_from answer n (total - (at + 1))) f

  module _ (at total : ℕ) (all found : List A) (x : A) (low : at < total) (is : x ≡ answer at) (so_far : all ≡ found ++ prefix_to_hit hits (answers_from answer at (total - at))) where
    more : all ≡ found ++ x ∷ cond (hits x) [] (prefix_to_hit hits (answers_from answer (at + 1) (total - (at + 1))))
    more = so_far ∙ (ap (λ l. found ++ prefix_to_hit hits l) (opened at total low) ∙ ap (λ (y : A). found ++ y ∷ cond (hits y) [] (prefix_to_hit hits (answers_from answer (at + 1) (total - (at + 1))))) (sym is))

    pub ends : hits x ≡ true → all ≡ found ++ x ∷ []
    ends h = more ∙ ap (λ b. found ++ x ∷ cond b [] (prefix_to_hit hits (answers_from answer (at + 1) (total - (at + 1))))) h

    pub grows : hits x ≡ false → all ≡ (found ++ x ∷ []) ++ prefix_to_hit hits (answers_from answer (at + 1) (total - (at + 1)))
    grows h = more ∙ (ap (λ b. found ++ x ∷ cond b [] (prefix_to_hit hits (answers_from answer (at + 1) (total - (at + 1))))) h ∙ sym (append_assoc found (x ∷ []) (prefix_to_hit hits (answers_from answer (at + 1) (total - (at + 1))))))
