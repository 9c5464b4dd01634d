use Rattle.std.proofs.Common.{◌≡◌, ◌++◌, drop}
use Rattle.qk_syntax.specs.Canonical.{canonical}
use Rattle.qk_syntax.specs.View.{views}
use Rattle.qk_syntax.proofs.printing.put_lines.Given as goal

abbrev pub invariant-loop-tree : goal.invariant-loop-tree
invariant-loop-tree l = l.out.items ++ canonical (views (drop l.tree-index l.trees)) ≡ l.fn.out.items ++ canonical (views l.trees)
