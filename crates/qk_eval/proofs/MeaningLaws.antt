-- Laws of going on.
use Rattle.std.proofs.Common.{◌≡◌, ℕ, refl}
use Rattle.qk_eval.specs.Meaning.{Evaluated, result, crash, and_then}

-- what goes on in two steps goes on in one
pub and_then_again : {R S T : Type 0} (r : Evaluated R) (f : R → ℕ → Evaluated S) (g : S → ℕ → Evaluated T) → and_then (and_then r f) g ≡ and_then r (λ x u. and_then (f x u) g)
and_then_again (result x u) f g = refl
and_then_again (crash c) f g = refl

-- what goes on with its own result is itself
pub and_then_itself : {R : Type 0} (r : Evaluated R) → and_then r (λ x u. result x u) ≡ r
and_then_itself (result x u) = refl
and_then_itself (crash c) = refl
