-- The bytes so far are digits.
use Rattle.std.proofs.Common.{◌≡◌, ◌++◌, take, drop}
use Rattle.qk_report.specs.TokenReader.{digits_front, digits_back}
use Rattle.qk_report.proofs.token_parsing.digits_in_front.Given as goal

abbrev pub invariant-loop-index : goal.invariant-loop-index
invariant-loop-index l = (take l.index l.bytes ++ digits_front (drop l.index l.bytes) ≡ digits_front l.bytes) × (digits_back (drop l.index l.bytes) ≡ digits_back l.bytes)
