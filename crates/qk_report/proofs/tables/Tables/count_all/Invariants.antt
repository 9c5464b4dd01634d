-- The keys so far are counted, and each key has a row.
use Rattle.std.proofs.Common.{◌≡◌, All, map, take, true}
use Rattle.qk_report.specs.Counted.{Raises, has_row, key_in}
use Rattle.qk_report.proofs.tables.Tables.count_all.Given as goal

abbrev pub invariant-loop-key : goal.invariant-loop-key
invariant-loop-key l = record {
  property : l.self.property ≡ l.fn.self.property;
  counts : Raises l.fn.self (map key_in (take l.key-index l.keys)) l.self;
  rows : All (λ key. has_row l.self (key_in key) ≡ true) l.keys;
}
