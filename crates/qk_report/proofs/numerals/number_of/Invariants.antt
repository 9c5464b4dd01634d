-- The digits that are left make the number whole.
use Rattle.std.proofs.Common.{◌≡◌, ◌<◌, ◌^◌, drop, true}
use Rattle.std.specs.Str.{all_ascii_digits}
use Rattle.std.specs.Str.Parse.{digits_value_after}
use Rattle.qk_report.proofs.numerals.number_of.Given as goal

abbrev pub invariant-loop-digit : goal.invariant-loop-digit
invariant-loop-digit l = (digits_value_after 10 l.number (drop l.digit-index l.digits) ≡ digits_value_after 10 0 l.digits) × (all_ascii_digits (drop l.digit-index l.digits) ≡ true) × (l.number < 2 ^ 64)
