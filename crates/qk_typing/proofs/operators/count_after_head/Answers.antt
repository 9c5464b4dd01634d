use Rattle.std.proofs.Common.{◌≡◌, ◌-◌, ℕ, List, [], ◌∷◌, length, rules, arith}
use Rattle.qk_syntax.specs.PlainTrees.{count}
use Rattle.qk_syntax.specs.View.{views}
use Rattle.qk_syntax.specs.declared.tree.Tree.{Tree}
use Rattle.qk_headers.specs.TypesOf.{parts_after}
use Rattle.qk_names.proofs.Sequencing.{count_views}
use Rattle.qk_typing.proofs.operators.count_after_head.Goals as goal

one_less : (ts : List Tree) (n : ℕ) → n ≡ length ts - 1 → n ≡ count (parts_after (views ts))
one_less [] n h = h
one_less (t ∷ ts) n h = let others = count_views ts in omega arith

pub returns : goal.returns
returns c = one_less c.args.parts.now _ (search rules)
