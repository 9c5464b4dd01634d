-- No count so far stands still.
use Rattle.std.proofs.Common.{◌≡◌, ◌<◌, ◌-◌, ◌^◌, ◌++◌}
use Rattle.std.specs.List.{AllByRecursion}
use Rattle.qk_report.proofs.tables.Tables.none_stands_still.Given as goal

abbrev pub invariant-loop-count : goal.invariant-loop-count
invariant-loop-count l = record {
  so_far : AllByRecursion (λ e. e.1 < 2 ^ 64 - 1) l.count-iterator → AllByRecursion (λ e. e.1 < 2 ^ 64 - 1) l.self.counts.entries;
}
