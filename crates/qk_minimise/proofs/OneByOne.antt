-- The first failing candidate, one candidate after another.
use Rattle.std.proofs.Common.{◌≡◌, ℕ, suc, ◌+◌, Bool, true, false, Some, List, drop, slice_get, refl, sym, ◌∙◌, ap, arith}
use Rattle.std.specs.List.{position, position_from}
use Rattle.qk_minimise.proofs.Frontiers.{IsFirst, drop_at}

module _ {P : Type 0} (failing : P → Bool) (ps : List P) (k : ℕ) (p : P) (is : slice_get ps k ≡ Some p) (so_far : IsFirst failing ps k) where
  pub next_fails : failing p ≡ true → Some k ≡ position failing ps
  next_fails fails = let here : position_from failing k (drop k ps) ≡ Some k = rw (drop_at ps k p is, fails) refl in sym here ∙ so_far

  pub next_passes : failing p ≡ false → IsFirst failing ps (k + 1)
  next_passes passes =
      let here : position_from failing k (drop k ps) ≡ position_from failing (k + 1) (drop (suc k) ps) = rw (drop_at ps k p is, passes) refl in
      let one_more : k + 1 ≡ suc k = omega arith in
      ap (λ n. position_from failing (k + 1) (drop n ps)) one_more ∙ (sym here ∙ so_far)
