-- The plain data that trees stand for.
use Rattle.std.specs.Prelude.{List, map}
use Rattle.qk_base.specs.declared.place.Place.{Place}
use Rattle.qk_syntax.specs.PlainTrees.{PlainTree, number, name, list, PlainTrees, trees_of}
use Rattle.qk_syntax.specs.declared.tree.Tree.{Tree}
use Rattle.qk_syntax.specs.declared.tree.Node.TheFolds.{fold-Tree}
use Rattle.qk_syntax.specs.declared.tree.Node.TheOpen.{Node-F, Tree-F}

-- one level, with each tree inside already seen as its data
abbrev pub node_step : Node-F (Place → PlainTree) PlainTree → Place → PlainTree
node_step (Node-F.Number n) place = number place n
node_step (Node-F.Name s) place = name place s.items
node_step (Node-F.List s) place = list place (trees_of s.items)

abbrev pub tree_step : Tree-F (Place → PlainTree) PlainTree → PlainTree
tree_step t = t.node t.place

abbrev pub view : Tree → PlainTree
view = fold-Tree (Place → PlainTree) PlainTree node_step tree_step

abbrev pub views : List Tree → PlainTrees
views ts = trees_of (map view ts)
