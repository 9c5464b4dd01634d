-- Worked examples.
use Rattle.std.proofs.Common.{◌≡◌, [], ◌∷◌, Some, None, refl}
use Rattle.qk_base.specs.declared.outcome.Verdict.TheVariants.{Pass, Discard, Fail}
use Rattle.qk_base.specs.declared.outcome.Cause.TheVariants.{False, Overflow}
use Rattle.qk_exhaust.specs.Run.{walked}

all_hold : walked 0 0 (Pass ∷ Discard ∷ Pass ∷ Discard ∷ []) ≡ record { failed = None; discards = 2 }
all_hold = refl

first_of_two : walked 0 0 (Discard ∷ Pass ∷ Fail False ∷ Discard ∷ Fail Overflow ∷ []) ≡ record { failed = Some 2; discards = 1 }
first_of_two = refl
