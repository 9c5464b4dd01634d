use Rattle.std.proofs.Common.{◌≡◌, subst, sym, arith}
use Rattle.qk_syntax.specs.Canonical.{Readable}
use Rattle.qk_syntax.specs.Places.{start}
use Rattle.qk_syntax.specs.PlainTrees.{PlainTrees, list, more, end}
use Rattle.qk_syntax.proofs.tests.prints_a_list.Goals as goal

readable : (ts : PlainTrees) → ts ≡ more (list start end) end → Readable ts
readable ts e = subst Readable (sym e) (record { each = ((omega arith, tt), tt); few = omega arith; short = omega arith })

pub print-requires : goal.print-requires
print-requires g c = readable _ c.in_ok-trees.ensures
