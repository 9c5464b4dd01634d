use Rattle.std.proofs.Common.{rules, arith, ◌≡◌, ◌<◌, [], ◌∷◌, ◌++◌, length, length-append, get_or, sym, subst, ap, ◌∙◌, Some, None, IfSome, length-set}
use Rattle.std.proofs.lemmas.List.{get_or_read}
use Rattle.qk_pool.specs.Workers.{IsRight}
use Rattle.qk_pool.proofs.Filling.{right_none, filled_past, in_place_snoc}
use Rattle.qk_pool.proofs.slots.collect.Goals as goal

pub loop-index-preserved : goal.loop-index-preserved
loop-index-preserved g c =
    let R = IsRight (g.F.Feed.inputs c.args.feed.now) (g.T.Task.answers c.args.task.now) in
    let inv = c.loop-index.invariant in let at = c.loop-index.index in
    let room : at < length c.loop-index.slots.items = omega (arith, inv.len, c.loop-index-test.true) in
    let is : get_or c.loop-index.slots.items at None ≡ Some c.in-Some.answer = sym (get_or_read c.loop-index.slots.items at c.index_mut.result.now room c.index_mut.ensures.value None) ∙ sym c.in-Some.ensures.value in
    let good : R at c.in-Some.answer = subst (λ o. IfSome o (λ a. R at a)) is (inv.right at) in
    let pushed : c.add.new.self.items ≡ c.loop-index.list.items ++ c.in-Some.answer ∷ [] = search rules in
    let gone : c.take.new.self ≡ None = search rules in
    let len = ap length pushed ∙ length-append c.loop-index.list.items (c.in-Some.answer ∷ []) in
    record {
      len = length-set c.loop-index.slots.items at c.take.new.self ∙ inv.len;
      right = rw gone (right_none R c.loop-index.slots.items at room inv.right);
      filled = λ n low high. filled_past c.loop-index.slots.items at n c.take.new.self (λ e. omega arith) (inv.filled n (omega arith) high);
      count = omega (arith, inv.count);
      places = rw pushed (in_place_snoc R 0 at c.loop-index.list.items c.in-Some.answer inv.places (omega (arith, inv.count)) good);
    }
