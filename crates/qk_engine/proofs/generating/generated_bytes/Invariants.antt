-- The lines that are left make the file whole.
use Rattle.std.proofs.Common.{◌≡◌, ◌++◌, ◌-◌}
use Rattle.qk_engine.specs.Generated.{generated_file, lines_from}
use Rattle.qk_engine.proofs.generating.generated_bytes.Given as goal

abbrev pub invariant-loop-i : goal.invariant-loop-i
invariant-loop-i l = l.text.items ++ lines_from l.i (l.count - l.i) ≡ generated_file l.count
