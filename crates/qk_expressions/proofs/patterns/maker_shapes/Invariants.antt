-- The shapes so far and those of what is left.
use Rattle.std.proofs.Common.{◌≡◌, ◌++◌, map, drop}
use Rattle.qk_expressions.specs.CasesView.{shape_in}
use Rattle.qk_expressions.specs.Patterns.{maker_shapes}
use Rattle.qk_expressions.proofs.patterns.maker_shapes.Given as goal

abbrev pub invariant-loop-number : goal.invariant-loop-number
invariant-loop-number l = maker_shapes l.kind 0 l.makers ≡ map shape_in l.shapes.items ++ maker_shapes l.kind l.number (drop l.number l.makers)
