use Rattle.std.proofs.Common.{arith}
use Rattle.std.proofs.lemmas.Grind.{common_steps}
use Rattle.qk_eval.specs.Parts.{items_of}
use Rattle.qk_eval.specs.Falls.{depth_items}
use Rattle.qk_eval.proofs.ListLaws.{joined_push, depths_push, refused}
use Rattle.qk_eval.proofs.lists.one_by_one.Goals as goal

pub items-preserved : goal.items-preserved
items-preserved c =
    let push = joined_push c.pop.new.self.items c.in-Some.item (items_of c.items.all) in
    let depths = depths_push c.pop.new.self.items c.in-Some.item in
    grind (arith, common_steps, push, depths, c.items.invariant.list, c.items.invariant.depth, c.items.invariant.whole, c.in-Some.ensures, c.cons.ensures, c.in-Ok.is)

pub returns-in-Err : goal.returns-in-Err
returns-in-Err c =
    let push = joined_push c.pop.new.self.items c.in-Some.item (items_of c.items.all) in
    let depths = depths_push c.pop.new.self.items c.in-Some.item in
    let deep = depth_items c.items.all c.items.invariant.list in
    let same = refused c.pop.new.self.items c.in-Some.item (items_of c.items.all) c.in-Err.cause in
    grind (arith, common_steps, push, depths, deep, same, c.items.invariant.depth, c.items.invariant.whole, c.in-Some.ensures, c.is_small.ensures, c.in_ok-longer-in-Some.ensures, c.in-Err.is)
