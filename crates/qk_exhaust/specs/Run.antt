-- A run over the verdicts of cases, in order.
use Rattle.std.specs.Prelude.{◌≡◌, ℕ, ◌+◌, min, Bool, true, false, nat_le, List, [], ◌∷◌, length, take, Some, None}
use Rattle.qk_base.specs.declared.outcome.Verdict.{Verdict}
use Rattle.qk_base.specs.declared.outcome.Verdict.TheVariants.{Pass, Discard, Fail}
use Rattle.qk_exhaust.specs.declared.exhausting.Exhausted.{Exhausted}
use Rattle.qk_exhaust.specs.declared.walked.Walked.{Walked}

abbrev pub fails : Verdict → Bool
fails Pass = false
fails Discard = false
fails (Fail cause) = true

-- the first case that fails, if one does, and the discarded cases before it, or all; the first verdict is that of case k, before which d cases were discarded
abbrev pub walked : ℕ → ℕ → List Verdict → Walked
walked k d [] = record { failed = None; discards = d }
walked k d (Pass ∷ vs) = walked (k + 1) d vs
walked k d (Discard ∷ vs) = walked (k + 1) (d + 1) vs
walked k d (Fail cause ∷ vs) = record { failed = Some k; discards = d }

-- a run over the first `most` cases, or over all where there are no more
pub record IsExhausted (most : ℕ) (vs : List Verdict) (e : Exhausted) : Type 0 where
  pub looked : e.looked ≡ min most (length vs)
  pub all : e.all ≡ nat_le (length vs) most
  pub walked : e.walked ≡ walked 0 0 (take most vs)
