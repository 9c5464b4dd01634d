-- The keys so far have rows, and no count changed.
use Rattle.std.proofs.Common.{◌≡◌, All, take, true}
use Rattle.qk_report.specs.Counted.{SameCounts, has_row, key_in}
use Rattle.qk_report.proofs.tables.Tables.take_rows.Given as goal

abbrev pub invariant-loop-key : goal.invariant-loop-key
invariant-loop-key l = record {
  property : l.self.property ≡ l.fn.self.property;
  counts : SameCounts l.fn.self l.self;
  rows : All (λ key. has_row l.self (key_in key) ≡ true) (take l.key-index l.keys);
}
