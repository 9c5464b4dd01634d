-- As many spaces are there as were counted.
use Rattle.std.proofs.Common.{◌≡◌, ◌++◌, replicate}
use Rattle.qk_report.proofs.table_lines.put_spaces.Given as goal

abbrev pub invariant-loop : goal.invariant-loop
invariant-loop l = l.text.items ≡ l.fn.text.items ++ replicate l.counter 32
