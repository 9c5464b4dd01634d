-- What is left comes to what the whole does.
use Rattle.std.proofs.Common.{◌≡◌, [], drop}
use Rattle.qk_syntax.specs.View.{views}
use Rattle.qk_typing.specs.PartsView.{words_in}
use Rattle.qk_expressions.specs.Patterns.{pattern_variables}
use Rattle.qk_expressions.proofs.patterns.pattern_variables.Given as goal

abbrev pub invariant-loop-tree : goal.invariant-loop-tree
invariant-loop-tree l = pattern_variables [] (views l.trees) ≡ pattern_variables (words_in l.words.items) (views (drop l.tree-index l.trees))
