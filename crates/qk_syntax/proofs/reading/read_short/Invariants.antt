use Rattle.std.proofs.Common.{◌≡◌, ◌-◌, ◌<◌, length, drop, slice_index}
use Rattle.qk_syntax.specs.Cursors.{IsWithin, IsTokenByte}
use Rattle.qk_syntax.specs.Places.{start}
use Rattle.qk_syntax.specs.Reader.{free, scan, reading}
use Rattle.qk_syntax.specs.Stacks.{stack_of, bottom}
use Rattle.qk_syntax.proofs.reading.read_short.Given as goal

-- what is read of the rest from here on is what is read of the whole text
abbrev pub invariant-loop-cursor : goal.invariant-loop-cursor
invariant-loop-cursor l = record {
  within : IsWithin l.bytes l.cursor;
  token : l.cursor.at < length l.bytes → IsTokenByte (slice_index l.bytes l.cursor.at);
  same : reading (scan (drop l.cursor.at l.bytes) free l.cursor.place) (stack_of l.lists) ≡ reading (scan l.bytes free start) bottom;
}

abbrev pub decreases-loop-cursor : goal.decreases-loop-cursor
decreases-loop-cursor l = length l.bytes - l.cursor.at
