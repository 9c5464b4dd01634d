use Rattle.std.proofs.Common.{rules, arith, ◌≡◌, ◌<◌, true, false, [], ◌∷◌, ◌++◌, length, get_or, sym, subst, ap, ◌∙◌, ⊎_elim, Some, None, IfSome, length-set}
use Rattle.std.proofs.lemmas.List.{get_or_read}
use Rattle.qk_scan.proofs.Prefixes.{ends, grows}
use Rattle.qk_scan.proofs.Filling.{right_none, filled_past}
use Rattle.qk_scan.proofs.slots.collect.Goals as goal

pub returns-then-index-bound : goal.returns-then-index-bound
returns-then-index-bound g c =
    let j = g.J.Jobs in let js = c.args.jobs.now in let inv = c.loop-index.invariant in let at = c.loop-index.index in
    let low : at < j.total js = omega (arith, c.count-count.ensures.value) in
    let room : at < length c.loop-index.slots.items = omega (arith, inv.len) in
    let is : get_or c.loop-index.slots.items at None ≡ Some c.in-Some.answer = sym (get_or_read c.loop-index.slots.items at c.index_mut.result.now room c.index_mut.ensures.value None) ∙ sym c.in-Some.ensures.value in
    let told : c.in-Some.answer ≡ j.answer_at js at = subst (λ o. IfSome o (λ a. a ≡ j.answer_at js at)) is (inv.right at) in
    let here : c.args.bound ≡ at = sym c.if-index-bound.true in
    let hit : j.hits js (j.answer_at js at) ≡ true = ⊎_elim (λ (e : c.args.bound ≡ j.total js). absurd (omega arith)) (λ (h : j.hits js (j.answer_at js c.args.bound) ≡ true). ap (λ n. j.hits js (j.answer_at js n)) (sym here) ∙ h) c.requires.bound in
    let done = ends (j.answer_at js) (j.hits js) at (j.total js) _ c.loop-index.found.items c.in-Some.answer low told inv.so_far (ap (j.hits js) told ∙ hit) in
    let pushed : c.add.new.self.items ≡ c.loop-index.found.items ++ c.in-Some.answer ∷ [] = search rules in
    pushed ∙ sym done

pub loop-index-preserved : goal.loop-index-preserved
loop-index-preserved g c =
    let j = g.J.Jobs in let js = c.args.jobs.now in let inv = c.loop-index.invariant in let at = c.loop-index.index in
    let low : at < j.total js = omega (arith, c.count-count.ensures.value) in
    let room : at < length c.loop-index.slots.items = omega (arith, inv.len) in
    let is : get_or c.loop-index.slots.items at None ≡ Some c.in-Some.answer = sym (get_or_read c.loop-index.slots.items at c.index_mut.result.now room c.index_mut.ensures.value None) ∙ sym c.in-Some.ensures.value in
    let told : c.in-Some.answer ≡ j.answer_at js at = subst (λ o. IfSome o (λ a. a ≡ j.answer_at js at)) is (inv.right at) in
    let past : at < c.args.bound = omega (arith, c.if-index-bound.false, inv.in_range.1) in
    let miss : j.hits js (j.answer_at js at) ≡ false = c.requires.misses at past in
    let more = grows (j.answer_at js) (j.hits js) at (j.total js) _ c.loop-index.found.items c.in-Some.answer low told inv.so_far (ap (j.hits js) told ∙ miss) in
    let pushed : c.add.new.self.items ≡ c.loop-index.found.items ++ c.in-Some.answer ∷ [] = search rules in
    let gone : c.take.new.self ≡ None = search rules in
    record {
      in_range = (omega arith, omega (arith, past));
      len = length-set c.loop-index.slots.items at c.take.new.self ∙ inv.len;
      right = rw gone (right_none (j.answer_at js) c.loop-index.slots.items at room inv.right);
      filled = λ n h k l. filled_past c.loop-index.slots.items at n c.take.new.self (λ e. omega arith) (inv.filled n (omega arith) k l);
      so_far = rw pushed more;
    }
