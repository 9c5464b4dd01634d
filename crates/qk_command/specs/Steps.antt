-- What a step of judging comes to: a result with the units left, or the end of the judging.
use Rattle.std.specs.Prelude.{ℕ, true, false}
use Rattle.qk_base.specs.declared.outcome.Cause.{Cause}
use Rattle.qk_value.specs.Data.{Data}
use Rattle.qk_eval.specs.Meaning.{Evaluated, result, crash}
use Rattle.qk_eval.specs.Parts.{truth_of}

pub data Judging (R : Type 0) : Type 0 where
  goes_on : (found : R) (left : ℕ) → Judging R
  discards : Judging R
  fails : (cause : Cause) → Judging R

-- goes on with a result and the units left
abbrev pub then : {R S : Type 0} → Judging R → (R → ℕ → Judging S) → Judging S
then (goes_on x u) go = go x u
then discards go = discards
then (fails c) go = fails c

-- goes on with what was evaluated; a crash fails, with its cause
abbrev pub with_value : {R S : Type 0} → Evaluated R → (R → ℕ → Judging S) → Judging S
with_value (result x u) go = go x u
with_value (crash c) go = fails c

-- goes on where that is true, else judges so
abbrev pub where_true : {R : Type 0} → Data → Judging R → Judging R → Judging R
where_true x go other = elim (truth_of x) [ true ↦ go | false ↦ other ]
