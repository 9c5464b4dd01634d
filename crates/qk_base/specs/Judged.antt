-- What contracts see of an outcome.
use Rattle.std.specs.Prelude.{◌≡◌, ℕ, List, Bool, true, false, Option, Some, None}
use Rattle.qk_base.specs.declared.outcome.Cause.{Cause}
use Rattle.qk_base.specs.declared.outcome.Verdict.{Verdict}
use Rattle.qk_base.specs.declared.outcome.Verdict.TheVariants.{Pass, Discard, Fail}

-- the marks as plain lists
pub record Marked : Type 0 where
  pub label : List ℕ
  pub classes : List Bool
  pub entries : List (List ℕ)
  pub covers : List Bool

-- the verdict and the marks as plain data
pub record Judged : Type 0 where
  pub verdict : Verdict
  pub marks : Marked

-- the cause of a verdict that fails
abbrev pub cause_of : Verdict → Option Cause
cause_of Pass = None
cause_of Discard = None
cause_of (Fail cause) = Some cause

abbrev pub is_pass : Verdict → Bool
is_pass Pass = true
is_pass Discard = false
is_pass (Fail cause) = false

abbrev pub passes : Judged → Bool
passes outcome = is_pass outcome.verdict

-- the outcome is a Pass or a Discard
abbrev pub DoesNotFail : Judged → Type 0
DoesNotFail outcome = cause_of outcome.verdict ≡ None
