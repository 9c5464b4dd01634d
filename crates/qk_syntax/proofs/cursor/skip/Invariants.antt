use Rattle.std.proofs.Common.{◌≡◌, ◌-◌, ◌≤◌, length, drop}
use Rattle.qk_syntax.specs.Cursors.{IsWithin, skipping}
use Rattle.qk_syntax.specs.Reader.{free, scan}
use Rattle.qk_syntax.proofs.cursor.skip.Given as goal

-- what is left to scan has all tokens
abbrev pub invariant-loop-cursor : goal.invariant-loop-cursor
invariant-loop-cursor l = record {
  within : IsWithin l.bytes l.cursor;
  onward : l.fn.from.at ≤ l.cursor.at;
  same : scan (drop l.fn.from.at l.bytes) free l.fn.from.place ≡ scan (drop l.cursor.at l.bytes) (skipping l.comment) l.cursor.place;
}

abbrev pub decreases-loop-cursor : goal.decreases-loop-cursor
decreases-loop-cursor l = length l.bytes - l.cursor.at
