-- As many depths are counted as there were turns.
use Rattle.std.proofs.Common.{◌≡◌, length, map}
use Rattle.qk_series.specs.Rows.{AreRows}
use Rattle.qk_series.proofs.counts.Counts.make.Given as goal

abbrev pub invariant-loop : goal.invariant-loop
invariant-loop l = record {
  kinds : l.counts.0.now ≡ l.core.kinds;
  depths : length l.counts.1.0.items ≡ l.counter;
  right : AreRows l.counts.0.now (map (λ r. r.items) l.counts.1.0.items);
}
