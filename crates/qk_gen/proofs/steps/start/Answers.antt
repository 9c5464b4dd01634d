use Rattle.std.proofs.Common.{refl}
use Rattle.qk_gen.proofs.ViewLaws.{view_int, view_bool, view_size, view_list, view_vector, view_bind}
use Rattle.qk_gen.proofs.steps.start.Goals as goal

pub returns-in-Int : goal.returns-in-Int
returns-in-Int c = rw (c.in-Int.is, view_int, c.any_number.ensures) refl

pub returns-in-Bool : goal.returns-in-Bool
returns-in-Bool c = rw (c.in-Bool.is, view_bool, c.any_truth.ensures) refl

pub returns-in-Size : goal.returns-in-Size
returns-in-Size c = rw (c.in-Size.is, view_size, c.own_size.ensures) refl

pub returns-in_ok-next-in-List : goal.returns-in_ok-next-in-List
returns-in_ok-next-in-List c =
    let begun = c.in_ok-next-in-List.ensures c.args.core.now.functions c.args.core.now.generators c.args.env.now.items c.args.left.now in
    rw (c.in-List.is, view_list c.in-List.item) (rw c.deref-in-List.ensures at begun)

pub returns-in_ok-next-in-Bind : goal.returns-in_ok-next-in-Bind
returns-in_ok-next-in-Bind c =
    let begun = c.in_ok-next-in-Bind.ensures c.args.core.now.functions c.args.core.now.generators c.args.env.now.items c.args.left.now in
    rw (c.in-Bind.is, view_bind c.in-Bind.first c.in-Bind.body) (rw (c.deref-in-Bind.ensures, c.deref-in-Bind-2.ensures) at begun)

pub returns-in_ok-next-in-Vector : goal.returns-in_ok-next-in-Vector
returns-in_ok-next-in-Vector c =
    rw (c.in-Vector.is, view_vector c.in-Vector.length c.in-Vector.item) (rw (c.deref-in-Vector.ensures, c.deref-in-Vector-2.ensures.value) at c.in_ok-next-in-Vector.ensures)
