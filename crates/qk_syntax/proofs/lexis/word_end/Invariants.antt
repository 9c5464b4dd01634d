use Rattle.std.proofs.Common.{◌≡◌, ◌+◌, ◌-◌, ◌≤◌, length, drop}
use Rattle.qk_syntax.specs.Words.{word_of}
use Rattle.qk_syntax.proofs.lexis.word_end.Given as goal

-- the word bytes so far and those of the run that is left make the run
abbrev pub invariant-loop-end : goal.invariant-loop-end
invariant-loop-end l = record { within : l.end ≤ length l.bytes; whole : l.end + length (word_of (drop l.end l.bytes)) ≡ l.from + length (word_of (drop l.from l.bytes)) }

abbrev pub decreases-loop-end : goal.decreases-loop-end
decreases-loop-end l = length l.bytes - l.end
