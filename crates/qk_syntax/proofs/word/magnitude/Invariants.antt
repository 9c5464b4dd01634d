use Rattle.std.proofs.Common.{◌≡◌, ◌-◌, ◌^◌, ◌<◌, min, take}
use Rattle.qk_syntax.specs.Words.{magnitude}
use Rattle.qk_syntax.proofs.word.magnitude.Given as goal

abbrev pub invariant-loop-digit : goal.invariant-loop-digit
invariant-loop-digit l = record { fits : l.sum < 2 ^ 64; value : l.sum ≡ min (magnitude (take l.digit-index l.digits)) (2 ^ 64 - 1) }
